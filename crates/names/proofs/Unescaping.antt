-- The laws of reading a name back plain. Assumes nothing.
use mathlib.Core.Path.{◌≡◌, refl, sym, ap, ◌∙◌}
use mathlib.Core.Bool.{Bool, true, false, cond}
use mathlib.Mathlib.Data.Bool.Basic.{or-eq-false-eq-eq-false-and-eq-false}
use mathlib.Core.List.{List, ◌∷◌, ◌++◌}
use mathlib.Core.Option.{none, some}
use Prim.Native.Nat.{ℕ, suc, ◌+◌, ◌≤◌, ◌<◌}
use native.Mathlib.Nat.{add-zero, zero-add}
use native.Mathlib.Omega.{arith}
use lib.Dec.{eqb, leb}
use lib.ListN.{length, take, drop, get_or, set, length-append, take-append-drop}
use lib.Seq.{sets, take-suc, drop-cons, get_or-append-add}
use borrow.Author.Tests.{le-ltb, lt-ltb}
use Rattle.std.specs.Prelude.{Ok, Err}
use Rattle.refusals.specs.declared.Refusal.TheVariants.{NoFit}
use Rattle.names.specs.declared.Ending.{Ending}
use Rattle.names.specs.declared.Ending.TheVariants.{Stopped, Ended, Bad}
use Rattle.std.proofs.lemmas.List.{take_more_set}
use native.Mathlib.Numerals.{add-one}
use Rattle.rooms.proofs.Rooms.{front}
use Rattle.names.specs.Names.{marked, escape_byte, escape, Name, bad, ended, stopped, read_plain, whole, unescaped, of_key, name_in, plain_wrote, plain_room}
use Rattle.names.specs.Steps.{ending_of, plain_of, past_mark}
use Rattle.names.proofs.Escaping.{escape_append, escape_snoc}
use Rattle.names.proofs.Reading.{Is, plain_is}

-- ---- the name that was escaped

pub unescaped_is : (k name : List ℕ) → unescaped k ≡ some name → k ≡ escape name
unfolding unescaped
unescaped_is k name e = go (read_plain k) (plain_is k) e
  where
    go : (r : Name) → Is k r → whole r ≡ some name → k ≡ escape name
    go bad i f = let z : ◌≡◌ {A = ℕ} 0 1 = cc in absurd (omega arith)
    go (ended m) i f = let em : m ≡ name = cc in i ∙ ap escape em
    go (stopped m rest) i f = let z : ◌≡◌ {A = ℕ} 0 1 = cc in absurd (omega arith)

-- ---- a turn of the loop

-- the byte of the name that stands at a place of its escaped form, and the place after it
pub record Turn (part name : List ℕ) (o i : ℕ) : Type 0 where
  pub mark_within : i < length part
  pub within : past_mark part i < length part
  pub byte : get_or part (past_mark part i) 0 ≡ get_or name o 0
  pub next : past_mark part i + 1 ≡ length (escape (take (o + 1) name))

one : (P t : List ℕ) (b i : ℕ) → i ≡ length P → (p : Bool) → marked b ≡ p
    → (past_mark (P ++ (escape_byte b ++ t)) i < length (P ++ (escape_byte b ++ t))) × (get_or (P ++ (escape_byte b ++ t)) (past_mark (P ++ (escape_byte b ++ t)) i) 0 ≡ b) × (past_mark (P ++ (escape_byte b ++ t)) i + 1 ≡ length P + length (escape_byte b))
one P t b i ei true e =
    let first : get_or (P ++ (0x5C ∷ b ∷ t)) i 0 ≡ 0x5C = ap (λ (j : ℕ). get_or (P ++ (0x5C ∷ b ∷ t)) j 0) (ei ∙ sym (add-zero (length P))) ∙ get_or-append-add P (0x5C ∷ b ∷ t) 0 0 in
    let second : get_or (P ++ (0x5C ∷ b ∷ t)) (i + 1) 0 ≡ b = ap (λ (j : ℕ). get_or (P ++ (0x5C ∷ b ∷ t)) (j + 1) 0) ei ∙ get_or-append-add P (0x5C ∷ b ∷ t) 1 0 in
    rw (e, first) (rw length-append (omega arith), second, omega arith)
one P t b i ei false e =
    let first : get_or (P ++ (b ∷ t)) i 0 ≡ b = ap (λ (j : ℕ). get_or (P ++ (b ∷ t)) j 0) (ei ∙ sym (add-zero (length P))) ∙ get_or-append-add P (b ∷ t) 0 0 in
    let plain = ((or-eq-false-eq-eq-false-and-eq-false (eqb b 0x2F) (eqb b 0x5C)).0 e).1 in
    rw (e, first, plain) (rw length-append (omega arith), first, omega arith)

escape_split : (name : List ℕ) (o : ℕ) → o < length name → escape name ≡ escape (take o name) ++ (escape_byte (get_or name o 0) ++ escape (drop (suc o) name))
escape_split name o h =
    ap escape (sym (take-append-drop o name)) ∙ escape_append (take o name) (drop o name) ∙ ap (λ (l : List ℕ). escape (take o name) ++ escape l) (drop-cons name o 0 h)

mark_after : (i : ℕ) (p : Bool) → i ≤ cond p (i + 1) i
mark_after i true = omega arith
mark_after i false = omega arith

pub turn : (part name : List ℕ) (o i : ℕ) → part ≡ escape name → o < length name → i ≡ length (escape (take o name)) → Turn part name o i
turn part name o i ep h ei =
    let P : List ℕ = escape (take o name) in
    let t : List ℕ = escape (drop (suc o) name) in
    let b : ℕ = get_or name o 0 in
    let s : part ≡ P ++ (escape_byte b ++ t) = ep ∙ escape_split name o h in
    let w = one P t b i ei (marked b) refl in
    let n : length (escape (take (o + 1) name)) ≡ length P + length (escape_byte b) = ap length (escape_snoc name o h) ∙ length-append P (escape_byte b) in
    rw s (record { mark_within = omega (arith, w.0, mark_after i (eqb (get_or (P ++ (escape_byte b ++ t)) i 0) 0x5C)); within = w.0; byte = w.1; next = w.2 ∙ sym n })

pub plain_laid : (name front : List ℕ) (o : ℕ) {b : ℕ} → o < length name → o < length front → take o front ≡ take o name → b ≡ get_or name o 0 → take (o + 1) (set front o b) ≡ take (o + 1) name
plain_laid name front o hn hf e eb = take_more_set front o _ hf ∙ rw (e, eb, add-one, take-suc name o 0 hn)

-- ---- what is answered

-- what a reading to the last byte says: the part stands for a name of that many bytes
pub record Plain (part : List ℕ) (n : ℕ) : Type 0 where
  pub is : part ≡ escape (plain_of part)
  pub name : name_in part ≡ some (plain_of part)
  pub count : n ≡ length (plain_of part)

pub plain-some : (part : List ℕ) (n : ℕ) → Ended n ≡ ending_of (read_plain part) 0 0 → Plain part n
unfolding name_in unescaped
plain-some part n told = go (read_plain part) (plain_is part) refl told
  where
    short : (name : List ℕ) → part ≡ escape name → read_plain part ≡ ended name → (p : Bool) → leb (length name) 32 ≡ p → Ended n ≡ cond p (Ended (length name)) Bad → Plain part n
    short name i f true g e = let z : n ≡ length name = cc in record { is = rw f i; name = rw (f, g); count = rw f z }
    short name i f false g e = let z : ◌≡◌ {A = ℕ} 0 1 = cc in absurd (omega arith)

    no_stroke : (p : Bool) (at : ℕ) → Ended n ≡ cond p (Stopped at) Bad → ⊥
    no_stroke true at e = let z : ◌≡◌ {A = ℕ} 0 1 = cc in omega arith
    no_stroke false at e = let z : ◌≡◌ {A = ℕ} 0 1 = cc in omega arith

    go : (r : Name) → Is part r → read_plain part ≡ r → Ended n ≡ ending_of r 0 0 → Plain part n
    go bad i f e = let z : ◌≡◌ {A = ℕ} 0 1 = cc in absurd (omega arith)
    go (ended name) i f e = short name i f (leb (length name) 32) refl (rw zero-add at e)
    go (stopped name rest) i f e = absurd (no_stroke (leb (0 + length name) 32) _ e)

pub plain-none : (part : List ℕ) {e : Ending} → e ≡ ending_of (read_plain part) 0 0 → ((n : ℕ) → e ≡ Ended n → ⊥) → name_in part ≡ none
unfolding name_in unescaped
plain-none part {e} told h = go (read_plain part) told
  where
    short : (name : List ℕ) (p : Bool) → e ≡ cond p (Ended (length name)) Bad → cond p (some name) none ≡ none
    short name true f = absurd (h _ f)
    short name false f = refl

    go : (r : Name) → e ≡ ending_of r 0 0 → of_key (whole r) ≡ none
    go bad f = refl
    go (ended name) f = short name (leb (length name) 32) (rw zero-add at f)
    go (stopped name rest) f = refl

module _ (part room : List ℕ) {n : ℕ} (p : Plain part n) where
  pub plain-long : length room < n → (Err NoFit ≡ plain_wrote (name_in part) room) × (room ≡ plain_room (name_in part) room)
  plain-long h =
      let l : length room < length (plain_of part) = omega (arith, p.count) in
      (rw (p.name, lt-ltb _ _ l), rw (p.name, lt-ltb _ _ l))

  pub plain-wrote : {l : List ℕ} → n ≤ length room → l ≡ sets room 0 (plain_of part) → (Ok n ≡ plain_wrote (name_in part) room) × (l ≡ plain_room (name_in part) room)
  plain-wrote h el =
      let f : length (plain_of part) ≤ length room = omega (arith, p.count) in
      (rw (p.name, le-ltb _ _ f) (ap Ok p.count), rw (p.name, le-ltb _ _ f) (el ∙ front (plain_of part) room f))
