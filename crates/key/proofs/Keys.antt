-- The laws of reading a key: what is found, and that bytes which are read as four parts are the key of these. Assumes nothing.
use mathlib.Core.Path.{◌≡◌, refl, sym, ap, ◌∙◌, subst}
use mathlib.Core.Bool.{Bool, true, false, cond, ◌&&◌, and-eq-true_iff}
use mathlib.Core.List.{List, [], ◌∷◌, ◌++◌, append_assoc}
use mathlib.Core.Option.{Option, none, some}
use Prim.Native.Nat.{ℕ, ◌+◌, ◌-◌, ◌≤◌}
use native.Mathlib.Omega.{arith}
use lib.Dec.{leb}
use lib.ListN.{length, take, drop, length-append}
use lib.Seq.{drop_at, take-append_seam}
use borrow.Author.Tests.{le-leb, leb-true}
use Rattle.rooms.specs.Rooms.{between}
use Rattle.names.specs.Names.{escape, Name, bad, ended, stopped, read_plain}
use Rattle.names.proofs.Reading.{Is, plain_is}
use Rattle.names.proofs.Strokes.{Named, Unnamed}
use Rattle.std.specs.Prelude as code
use Rattle.std.specs.Prelude.{Some, None, Result, Ok, Err, ok_or}
use Rattle.refusals.specs.declared.Refusal.{Refusal}
use Rattle.refusals.specs.declared.Refusal.TheVariants.{NotAKey}
use Rattle.key.specs.declared.Found.{Found}
use Rattle.key.specs.declared.Read.{Read}
use Rattle.key.specs.Key.{hex_word, key_of, key_of_parts, Parts, PartsFit, after_maker, after_device, read_key, found_of, maker_of, device_of, device_start, is_words, digits_word, words_of}
use Rattle.key.proofs.Form.{key_length}
use Rattle.key.proofs.Words.{words_sound, words_told, words_none, word_below, tail_of}

-- ---- what is found

-- the reason that a `?` hands on
pub reason : {A : Type 0} {o : code.Option A} (r : Refusal) → o ≡ None → Err r ≡ ok_or o NotAKey → r ≡ NotAKey
reason r n e = let e' : Err r ≡ Err NotAKey = rw n at e in cc

maker_none : (r : Name) → Unnamed r → none ≡ after_maker r
maker_none bad u = refl
maker_none (ended name) u = refl
maker_none (stopped name rest) u = rw u

device_none : (m : List ℕ) (r : Name) → Unnamed r → none ≡ after_device m r
device_none m bad u = refl
device_none m (ended name) u = refl
device_none m (stopped name rest) u = rw u

pub no_maker : (k : List ℕ) → Unnamed (read_plain k) → Err NotAKey ≡ found_of (read_key k)
unfolding read_key
no_maker k u = ap found_of (maker_none (read_plain k) u)

after-maker : (k : List ℕ) (a : ℕ) (m : Named k 0 a) → after_device m.name (read_plain (drop (a + 1) k)) ≡ read_key k
unfolding read_key
after-maker k a m = rw (m.reads, le-leb _ _ m.short) (ap (λ (l : List ℕ). after_device m.name (read_plain l)) m.next)

pub no_device : (k : List ℕ) (a : ℕ) → Named k 0 a → Unnamed (read_plain (drop (a + 1) k)) → Err NotAKey ≡ found_of (read_key k)
no_device k a m u = ap found_of (device_none m.name (read_plain (drop (a + 1) k)) u ∙ after-maker k a m)

after-device : (k : List ℕ) (a b : ℕ) (m : Named k 0 a) (d : Named k (a + 1) b)
    → cond (is_words (drop (b + 1) k)) (some (record { maker = m.name; device = d.name; date = digits_word (drop (b + 1) k); serial = digits_word (drop 5 (drop (b + 1) k)) })) none ≡ read_key k
after-device k a b m d = rw d.next (rw (d.reads, le-leb _ _ d.short) at (after-maker k a m))

module _ (k : List ℕ) (a b : ℕ) (m : Named k 0 a) (d : Named k (a + 1) b) where
  pub no_words : None ≡ words_of (drop (b + 1) k) → Err NotAKey ≡ found_of (read_key k)
  no_words e = ap found_of (rw (words_none _ e) at (after-device k a b m d))

  pub is_found : {w : Read} → Some w ≡ words_of (drop (b + 1) k) → Ok (record { maker_end = a; device_start = a + 1; device_end = b; date = w.date; serial = w.serial }) ≡ found_of (read_key k)
  is_found {w} e =
      let t = words_told _ w e in
      let f = ap found_of (rw t.0 at (after-device k a b m d)) in
      let ea : a ≡ length (escape m.name) = omega (arith, m.place) in
      let eb : b ≡ length (escape m.name) + 1 + length (escape d.name) = omega (arith, m.place, d.place) in
      rw t.1 (same ea eb ∙ f)
    where
      same : {a₁ b₁ x₁ y₁ p q : ℕ} → a₁ ≡ p → b₁ ≡ q → ◌≡◌ {A = Result Found Refusal} (Ok (record { maker_end = a₁; device_start = a₁ + 1; device_end = b₁; date = x₁; serial = y₁ })) (Ok (record { maker_end = p; device_start = p + 1; device_end = q; date = x₁; serial = y₁ }))
      same e₁ e₂ = rw (e₁, e₂)

-- ---- what is read as four parts is their key

given_words : (m d s : List ℕ) (k : List ℕ) (p : Parts) → length m ≤ 32 → k ≡ escape m ++ (0x2F ∷ (escape d ++ (0x2F ∷ s)))
    → cond (leb (length d) 32 && is_words s) (some (record { maker = m; device = d; date = digits_word s; serial = digits_word (drop 5 s) })) none ≡ some p → PartsFit p × (k ≡ key_of_parts p)
unfolding key_of
given_words m d s k p hm ek e = go (leb (length d) 32 && is_words s) refl
  where
    go : (t : Bool) → leb (length d) 32 && is_words s ≡ t → PartsFit p × (k ≡ key_of_parts p)
    go false f = let e' : none ≡ some p = rw f at e in let z : ◌≡◌ {A = ℕ} 0 1 = cc in absurd (omega arith)
    go true f =
        let e' : some (record { maker = m; device = d; date = digits_word s; serial = digits_word (drop 5 s) }) ≡ some p = rw f at e in
        let ep : record { maker = m; device = d; date = digits_word s; serial = digits_word (drop 5 s) } ≡ p = cc in
        let g = (and-eq-true_iff (leb (length d) 32) (is_words s)).0 f in
        let t = tail_of s g.1 in
        subst (λ (x : Parts). PartsFit x × (k ≡ key_of_parts x)) ep (
          record { maker_fits = hm; device_fits = leb-true _ _ g.0; date_fits = word_below s t.date; serial_fits = word_below (drop 5 s) t.serial },
          ek ∙ ap (λ (l : List ℕ). escape m ++ (0x2F ∷ (escape d ++ (0x2F ∷ l)))) (words_sound s g.1),
        )

given_device : (m : List ℕ) (k rest : List ℕ) (p : Parts) → length m ≤ 32 → k ≡ escape m ++ (0x2F ∷ rest) → (r : Name) → Is rest r → after_device m r ≡ some p → PartsFit p × (k ≡ key_of_parts p)
given_device m k rest p hm ek bad i e = let z : ◌≡◌ {A = ℕ} 0 1 = cc in absurd (omega arith)
given_device m k rest p hm ek (ended name) i e = let z : ◌≡◌ {A = ℕ} 0 1 = cc in absurd (omega arith)
given_device m k rest p hm ek (stopped d s) i e = given_words m d s k p hm (ek ∙ ap (λ (l : List ℕ). escape m ++ (0x2F ∷ l)) i) e

given_maker : (k : List ℕ) (p : Parts) (r : Name) → Is k r → after_maker r ≡ some p → PartsFit p × (k ≡ key_of_parts p)
given_maker k p bad i e = let z : ◌≡◌ {A = ℕ} 0 1 = cc in absurd (omega arith)
given_maker k p (ended name) i e = let z : ◌≡◌ {A = ℕ} 0 1 = cc in absurd (omega arith)
given_maker k p (stopped m rest) i e = go (leb (length m) 32) refl
  where
    go : (t : Bool) → leb (length m) 32 ≡ t → PartsFit p × (k ≡ key_of_parts p)
    go false f = let e' : none ≡ some p = rw f at e in let z : ◌≡◌ {A = ℕ} 0 1 = cc in absurd (omega arith)
    go true f = given_device m k rest p (leb-true _ _ f) i (read_plain rest) (plain_is rest) (rw f at e)

pub key_given : (k : List ℕ) (p : Parts) → read_key k ≡ some p → PartsFit p × (k ≡ key_of_parts p)
unfolding read_key
key_given k p e = given_maker k p (read_plain k) (plain_is k) e

-- ---- what is shown

-- what stands at the places found in the bytes k, which are read as o: both names
pub record Names (k : List ℕ) (f : Found) (o : Option Parts) : Type 0 where
  pub maker_is : take f.maker_end k ≡ maker_of o
  pub maker_ends : f.maker_end ≤ f.device_start
  pub device_starts : f.device_start ≡ device_start o
  pub device_is : between k f.device_start f.device_end ≡ device_of o
  pub device_ends : f.device_start ≤ f.device_end
  pub within : f.device_end ≤ length k

names_of : (k : List ℕ) (f : Found) (o : Option Parts) → read_key k ≡ o → Ok f ≡ found_of o → Names k f o
unfolding key_of
names_of k f none e h = let z : ◌≡◌ {A = ℕ} 0 1 = cc in absurd (omega arith)
names_of k f (some p) e h =
    let same : f ≡ record { maker_end = length (escape p.maker); device_start = length (escape p.maker) + 1; device_end = length (escape p.maker) + 1 + length (escape p.device); date = p.date; serial = p.serial } = cc in
    let g = (key_given k p e).1 in
    let n : length k ≡ length (escape p.maker) + length (escape p.device) + 11 = ap length g ∙ key_length p.maker p.device p.date p.serial in
    let z : length (escape p.maker) + 1 + length (escape p.device) - (length (escape p.maker) + 1) ≡ length (escape p.device) = omega arith in
    let l : length (escape p.maker ++ (0x2F ∷ [])) ≡ length (escape p.maker) + 1 = length-append (escape p.maker) (0x2F ∷ []) in
    let tail : List ℕ = hex_word p.date ++ (0x2F ∷ hex_word p.serial) in
    let d : drop (length (escape p.maker) + 1) k ≡ escape p.device ++ (0x2F ∷ tail) =
    ap (drop (length (escape p.maker) + 1)) (g ∙ sym (append_assoc (escape p.maker) (0x2F ∷ []) (escape p.device ++ (0x2F ∷ tail)))) ∙ drop_at (escape p.maker ++ (0x2F ∷ [])) _ _ l in
    rw same (record {
      maker_is = ap (take (length (escape p.maker))) g ∙ take-append_seam (escape p.maker) _;
      maker_ends = omega arith;
      device_starts = refl;
      device_is = rw (z, d) (take-append_seam (escape p.device) (0x2F ∷ tail));
      device_ends = omega arith;
      within = omega arith;
    })

pub names_found : (k : List ℕ) (f : Found) → Ok f ≡ found_of (read_key k) → Names k f (read_key k)
names_found k f e = names_of k f (read_key k) refl e
