-- The theorems on pack keys. Assumes nothing.
use mathlib.Core.Path.{◌≡◌, refl, sym, ap, ◌∙◌, subst}
use mathlib.Core.Bool.{Bool, true, false, cond}
use mathlib.Core.List.{List, [], ◌∷◌, ◌++◌}
use mathlib.Core.Option.{Option, none, some}
use Prim.Native.Nat.{ℕ, ◌≤◌}
use native.Mathlib.Omega.{arith}
use lib.Dec.{leb}
use lib.ListN.{length}
use borrow.Author.Tests.{le-leb, leb-true}
use Rattle.std.specs.Prelude.{Err}
use Rattle.refusals.specs.declared.Refusal.TheVariants.{NotAKey}
use Rattle.refusals.specs.Numbers.{answer_of}
use Rattle.rooms.specs.Rooms.{Bytes}
use Rattle.names.specs.Names.{escape, unescaped, of_key, name_in}
use Rattle.key.specs.Key.{hex_word, key_of, key_of_parts, Parts, PartsFit, IsKey, is_words, read_key, read_of, maker_of, device_of, device_start}
use Rattle.names.proofs.Escaping.{escape_length}
use Rattle.key.proofs.Form.{key_length}
use Rattle.names.proofs.Reading.{read_ended}
use Rattle.names.proofs.Unescaping.{unescaped_is}
use Rattle.key.proofs.Keys.{key_given}
use Rattle.key_laws.specs.Laws.{UnescapeEscape, ServedIsKey, NotKey, IsKeyWritten, NamesAreBytes, SameKey, NoKeyBeginsAnother, ReadWritten, NamesBack, NameExactly, NoneExactly, dashed, DashMerges, KeysDiffer, KeyAtMost139, all_escaped, SomeKeyOf139}
use Rattle.key_laws.proofs.Served.{gives, is_given, bytes_append, bytes_plain}
use Rattle.key_laws.proofs.Complete.{words_of, words_no, read_names, read_back}

-- ---- 1: unescaping an escaped name gives the name

pub unescape_escape : UnescapeEscape
unfolding unescaped
unescape_escape name = rw (read_ended name)

-- ---- 2: bytes are a key exactly when the writer gives them for some four parts

pub served_is_key : ServedIsKey
served_is_key k = (λ e. go (read_key k) refl e, λ i. rw (i.given, read_back i.parts i.fit))
  where
    go : (o : Option Parts) → read_key k ≡ o → answer_of (read_of o) ≡ 0 → IsKey k
    go none f e = absurd (omega arith)
    go (some p) f e = let g = key_given k p f in record { parts = p; fit = g.0; given = g.1 }

-- bytes that aren't a key are refused as such, and shown as parts of no bytes, the device name's too at their first byte
pub not_key : NotKey
not_key k n = go (read_key k) refl
  where
    go : (o : Option Parts) → read_key k ≡ o → (read_of o ≡ Err NotAKey) × (maker_of o ≡ []) × (device_of o ≡ []) × (device_start o ≡ 0)
    go none f = (refl, refl, refl, refl)
    go (some p) f = let g = key_given k p f in absurd (n (record { parts = p; fit = g.0; given = g.1 }))

-- the same of the writer's contract: some call of it that is served puts these bytes at the front of its room
pub is_key_written : IsKeyWritten
is_key_written k = (gives k, is_given k)

-- and the names of a key are bytes where the key's bytes are
pub names_are_bytes : NamesAreBytes
unfolding key_of
names_are_bytes k i h =
    let p : Parts = i.parts in
    let a = bytes_append (escape p.maker) _ (subst Bytes i.given h) in
    let b = bytes_append (escape p.device) _ a.1.1 in
    (bytes_plain p.maker a.0, bytes_plain p.device b.0)

-- ---- 3: two packs have equal keys exactly when all four parts agree

pub same_key : SameKey
same_key p q f g = (λ e. let s : some p ≡ some q = sym (read_back p f) ∙ ap read_key e ∙ read_back q g in cc, λ e. ap key_of_parts e)

-- ---- 4: no key begins another

pub no_key_begins_another : NoKeyBeginsAnother
no_key_begins_another k s i j = none_left s (go (is_words (words_of p.date p.serial s)) refl)
  where
    p : Parts
    p = i.parts

    q : Parts
    q = j.parts

    none_left : (t : List ℕ) → length t ≡ 0 → t ≡ []
    none_left [] e = refl
    none_left (b ∷ t) e = absurd (omega arith)

    go : (t : Bool) → is_words (words_of p.date p.serial s) ≡ t → length s ≡ 0
    go true e = words_no p.date p.serial s e
    go false e =
        let a : read_key (key_of_parts p ++ s) ≡ none = read_names p i.fit s ∙ rw e in
        let b : read_key (key_of_parts p ++ s) ≡ some q = ap (λ (l : List ℕ). read_key (l ++ s)) (sym i.given) ∙ ap read_key j.given ∙ read_back q j.fit in
        let z : ◌≡◌ {A = ℕ} 0 1 = cc in
        absurd (omega arith)

-- ---- 5: reading what was written gives what was written, and shows the device name where it was written

pub read_written : ReadWritten
read_written p f = let e = read_back p f in (ap read_of e, ap maker_of e, ap device_of e, ap device_start e)

-- a part stands for a name exactly when that has up to 32 bytes and the part is what it is escaped to
pub name_exactly : NameExactly
unfolding name_in
name_exactly part name = (λ e. go (unescaped part) refl e, λ (l, e). rw (e, unescape_escape name, le-leb (length name) 32 l))
  where
    short : (m : List ℕ) → unescaped part ≡ some m → (t : Bool) → leb (length m) 32 ≡ t → cond t (some m) none ≡ some name → (length name ≤ 32) × (part ≡ escape name)
    short m f true g e =
        let same : m ≡ name = cc in
        (leb-true _ _ (ap (λ (l : List ℕ). leb (length l) 32) (sym same) ∙ g), unescaped_is part m f ∙ ap escape same)
    short m f false g e = let z : ◌≡◌ {A = ℕ} 0 1 = cc in absurd (omega arith)

    go : (o : Option (List ℕ)) → unescaped part ≡ o → of_key o ≡ some name → (length name ≤ 32) × (part ≡ escape name)
    go none f e = let z : ◌≡◌ {A = ℕ} 0 1 = cc in absurd (omega arith)
    go (some m) f e = short m f (leb (length m) 32) refl e

name-in : (name : List ℕ) → length name ≤ 32 → name_in (escape name) ≡ some name
name-in name h = (name_exactly (escape name) name).1 (h, refl)

-- and a reader of keys gets the very names that were put in
pub names_back : NamesBack
names_back p f = let e = read_back p f in (rw e (name-in p.maker f.maker_fits), rw e (name-in p.device f.device_fits))

-- a part stands for none exactly when no key shows it
pub none_exactly : NoneExactly
none_exactly part = (λ e k i. (λ f. made i.parts.maker i.fit.maker_fits (shown-maker k i ∙ f) e, λ f. made i.parts.device i.fit.device_fits (shown-device k i ∙ f) e), λ h. go h (name_in part) refl)
  where
    shown-maker : (k : List ℕ) (i : IsKey k) → escape i.parts.maker ≡ maker_of (read_key k)
    shown-maker k i = sym (ap (λ (l : List ℕ). maker_of (read_key l)) i.given ∙ (read_written i.parts i.fit).1)

    shown-device : (k : List ℕ) (i : IsKey k) → escape i.parts.device ≡ device_of (read_key k)
    shown-device k i = sym (ap (λ (l : List ℕ). device_of (read_key l)) i.given ∙ (read_written i.parts i.fit).2)

    made : (name : List ℕ) → length name ≤ 32 → escape name ≡ part → name_in part ≡ none → ⊥
    made name l f e =
        let y : name_in part ≡ some name = (name_exactly part name).1 (l, sym f) in
        let z : ◌≡◌ {A = ℕ} 0 1 = cc in
        omega arith

    go : ((k : List ℕ) → IsKey k → (maker_of (read_key k) ≡ part → ⊥) × (device_of (read_key k) ≡ part → ⊥)) → (o : Option (List ℕ)) → name_in part ≡ o → name_in part ≡ none
    go h none e = e
    go h (some name) e =
        let n = (name_exactly part name).0 e in
        let p : Parts = record { maker = name; device = []; date = 0; serial = 0 } in
        let f : PartsFit p = record { maker_fits = n.0; device_fits = omega arith; date_fits = omega arith; serial_fits = omega arith } in
        absurd ((h (key_of_parts p) (record { parts = p; fit = f; given = refl })).0 ((read_written p f).1 ∙ sym n.1))

-- ---- 6: joined with a dash two packs merge, and here they have two keys

pub dash_merges : DashMerges
unfolding dashed
dash_merges = refl

pub keys_differ : KeysDiffer
unfolding key_of
keys_differ e = let z : ◌≡◌ {A = ℕ} 0x2F 0x2D = cc in omega arith

-- ---- 7: a key has at most 139 bytes, and some key has exactly 139

pub key_at_most_139 : KeyAtMost139
key_at_most_139 k i =
    let p : Parts = i.parts in
    omega (arith, ap length i.given, key_length p.maker p.device p.date p.serial, escape_length p.maker, escape_length p.device, i.fit.maker_fits, i.fit.device_fits)

pub some_key_of_139 : SomeKeyOf139
unfolding key_of hex_word
some_key_of_139 = (
  record {
    parts = all_escaped;
    fit = record { maker_fits = omega arith; device_fits = omega arith; date_fits = omega arith; serial_fits = omega arith };
    given = refl;
  },
  refl,
)
