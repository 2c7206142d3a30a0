-- What is packed above an answer has room there; and a found key is packed as a read one.
-- Assumes nothing.
use mathlib.Core.Bool.{true, not, ◌||◌}
use mathlib.Mathlib.Data.Bool.Basic.{or-eq-false-eq-eq-false-and-eq-false}
use mathlib.Core.List.{List, [], ◌∷◌}
use mathlib.Core.Option.{Option, none, some}
use mathlib.Core.Path.{◌≡◌, refl, sym, subst, ◌∙◌}
use Prim.Native.Nat.{ℕ, suc, ◌+◌, ◌*◌, ◌-◌, ◌≤◌, ◌<◌}
use native.Mathlib.Omega.{arith}
use borrow.Author.Tests.{ltb-false, leb-true}
use lib.Dec.{eqb, ltb, leb}
use lib.ListN.{length, get_or}
use Rattle.std.specs.Prelude.{Result, Ok, Err}
use Rattle.std.specs.Result.{ForOk}
use Rattle.refusals.specs.declared.Refusal.{Refusal}
use Rattle.capture.proofs.Check as capture
use Rattle.capture.proofs.Steps.{shown}
use Rattle.capture.specs.Capture.{is_capture, count_in, place_in}
use Rattle.capture.specs.Walk.{has_row, seen_bad, opened_of, step_at}
use Rattle.capture.specs.declared.Opened.{Opened}
use Rattle.key.proofs.Form.{key_length}
use Rattle.key.proofs.Keys.{key_given}
use Rattle.key.specs.Key.{Parts, read_key, read_of, found_of, maker_of, device_of}
use Rattle.key.specs.declared.Found.{Found}
use Rattle.key.specs.declared.Read.{Read}
use Rattle.key_writer.specs.Writing.{refused, key_wrote}
use Rattle.names.proofs.Escaping.{escape_length}
use Rattle.names.specs.Names.{escape, unescaped, of_key, name_in, plain_wrote}
use Rattle.packed.specs.Packed as packed
use Rattle.packed.specs.Packed.{key_number, LocatedFits, RowFits}
use Rattle.pec.proofs.Loops.{apart_le}
use Rattle.pec.specs.Messages.{bits_apart, bit_comparison}
use Rattle.rooms.proofs.Choice.{chosen}
use Rattle.sheet.proofs.Lengths.{at_most_145}
use Rattle.sheet.proofs.Names.{both, InSheet, part_in}
use Rattle.sheet.specs.Block.{Part, of_service, of_factory, good_sheets, part_of, located_by, located_of}
use Rattle.sheet.specs.declared.Located.{Located}
use Rattle.shelf_table.specs.Table.{bytes_told, table_report, table_wrote}

-- what holds of a value holds of all that its result has
of_value : {A : Type 0} (P : A → Type 0) {v : A} → P v → ForOk {E = Refusal} (Ok v) P
of_value P {v} p x e = let same : v ≡ x = cc in subst P same p

-- a refusal has none
of_refusal : {A : Type 0} (P : A → Type 0) {reason : Refusal} → ForOk (Err reason) P
of_refusal P x e = absurd (cc)

-- what holds of a result's value gives what is asked of it
pub asked : {A : Type 0} {P Q : A → Type 0} {r v : Result A Refusal} → r ≡ v → ForOk v P → ((x : A) → P x → Q x) → ForOk r Q
asked is holds so x e = so x (holds x (sym is ∙ e))

-- a number of at most so many
abbrev Most : ℕ → Result ℕ Refusal → Type 0
Most m r = ForOk r (λ n. n ≤ m)

-- ---- bits

bits_most : (a b : List ℕ) → ((i : ℕ) → get_or a i 0 < 256) → ((i : ℕ) → get_or b i 0 < 256) → bits_apart a b ≤ 8 * length a
unfolding bits_apart
bits_most [] b f g = omega arith
bits_most (x ∷ a) [] f g = omega arith
bits_most (x ∷ a) (y ∷ b) f g = omega (arith, apart_le x y (f 0) (g 0), bits_most a b (λ i. f (suc i)) (λ i. g (suc i)))

-- two messages of bytes differ in at most 296 bits
pub comparison_most : (a b : List ℕ) → ((i : ℕ) → get_or a i 0 < 256) → ((i : ℕ) → get_or b i 0 < 256) → ForOk (bit_comparison a b) (λ bits. bits ≤ 296)
comparison_most a b f g =
    chosen (Most 296) (not (eqb (length a) (length b)) || ltb 37 (length a))
    (λ _. of_refusal (λ n. n ≤ 296))
    (λ e. of_value (λ n. n ≤ 296) (omega (arith, bits_most a b f g, ltb-false 37 (length a) ((or-eq-false-eq-eq-false-and-eq-false (not (eqb (length a) (length b))) (ltb 37 (length a))).0 e).1)))

-- ---- lengths

-- a written key has at most 139 bytes
pub key_most : (maker device : List ℕ) (date serial : ℕ) (room : List ℕ) → ForOk (key_wrote maker device date serial room) (λ n. n ≤ 139)
unfolding key_wrote refused
key_most maker device date serial room =
    chosen (Most 139) (refused maker device room)
    (λ _. of_refusal (λ n. n ≤ 139))
    (λ e.
    let r = (or-eq-false-eq-eq-false-and-eq-false (ltb 32 (length maker) || ltb 32 (length device)) (ltb (length room) 139)).0 e in
    let n = (or-eq-false-eq-eq-false-and-eq-false (ltb 32 (length maker)) (ltb 32 (length device))).0 r.0 in
    of_value (λ n. n ≤ 139) (omega (arith, key_length maker device date serial, escape_length maker, escape_length device, ltb-false 32 (length maker) n.0, ltb-false 32 (length device) n.1)))

-- a plain name has at most 32 bytes
pub plain_most : (part room : List ℕ) → ForOk (plain_wrote (name_in part) room) (λ n. n ≤ 32)
unfolding name_in
plain_most part room = go (unescaped part)
  where
    Small : ℕ → Type 0
    Small n = n ≤ 32

    Fits : Option (List ℕ) → Type 0
    Fits o = ForOk (plain_wrote o room) Small

    go : (o : Option (List ℕ)) → Fits (of_key o)
    go none = of_refusal Small
    go (some name) =
        chosen Fits (leb (length name) 32)
        (λ l. chosen (Most 32) (ltb (length room) (length name)) (λ _. of_refusal Small) (λ _. of_value Small (leb-true (length name) 32 l)))
        (λ _. of_refusal Small)

-- a shelf's figures have 16 bytes
pub figures_most : (table room : List ℕ) → ForOk (table_wrote table room) (λ n. n ≤ 16)
figures_most table room = go (table_report table room)
  where
    go : (r : _) → Most 16 (bytes_told r)
    go (Ok figures) = of_value (λ n. n ≤ 16) (omega arith)
    go (Err reason) = of_refusal (λ n. n ≤ 16)

-- ---- captures

place_first : (s : List ℕ) → place_in s 0 ≡ 2 * count_in s + 1
unfolding place_in
place_first s = refl

-- an opened capture's rows and first place
pub opened_most : (s : List ℕ) → ForOk (opened_of s) (λ o. (o.rows ≤ 255) × (o.place ≤ 511))
unfolding opened_of
opened_most s =
    chosen (λ (o : Result Opened Refusal). ForOk o Small) (is_capture s)
    (λ e. let b = (capture.facts s e).byte in of_value Small (omega (arith, b), omega (arith, b, place_first s)))
    (λ _. of_refusal Small)
  where
    Small : Opened → Type 0
    Small o = (o.rows ≤ 255) × (o.place ≤ 511)

-- a row that a step shows lies within the longest capture
pub step_most : (s : List ℕ) (row place : ℕ) → RowFits place (step_at s row place)
unfolding step_at
step_most s row place =
    chosen (RowFits place) (has_row s row place)
    (λ h. let r = shown s row place h in (omega arith, omega (arith, r.within, r.most)))
    (λ _. chosen (RowFits place) (seen_bad s row place) (λ _. tt) (λ _. tt))

-- ---- keys and block names

-- the places that are found in a key rise, within its longest names, escaped
pub found_most : (k : List ℕ) → ForOk (found_of (read_key k)) (λ f. (f.maker_end ≤ f.device_start) × (f.device_start ≤ f.device_end) × (f.device_end ≤ 129))
found_most k = go (read_key k) refl
  where
    Rise : Found → Type 0
    Rise f = (f.maker_end ≤ f.device_start) × (f.device_start ≤ f.device_end) × (f.device_end ≤ 129)

    go : (o : Option Parts) → read_key k ≡ o → ForOk (found_of o) Rise
    go none g = of_refusal Rise
    go (some p) g =
        let fit = (key_given k p g).0 in
        let m = escape_length p.maker in
        let d = escape_length p.device in
        of_value Rise (omega arith, omega arith, omega (arith, m, d, fit.maker_fits, fit.device_fits))

-- a read key's words and how long its two parts are, packed
abbrev pub parts_number : Result Read Refusal → ℕ → ℕ → ℕ
parts_number (Ok read) maker device = packed.packed 0 (maker + 256 * device + 65536 * read.date + 4294967296 * read.serial)
parts_number (Err reason) maker device = packed.refused reason

-- what is packed of a found key is what is packed of a read one
pub found_number : (o : Option Parts) {r : Result Found Refusal} → r ≡ found_of o → key_number r ≡ parts_number (read_of o) (length (maker_of o)) (length (device_of o))
found_number none e = rw e refl
found_number (some p) e =
    let z : length (escape p.maker) + 1 + length (escape p.device) - (length (escape p.maker) + 1) ≡ length (escape p.device) = omega arith in
    rw (e, z) refl

-- a block name lies within the longest sheet
module _ (s f : List ℕ) (tag : ℕ) where
  by_part : good_sheets s f ≡ true → (p : Part) → InSheet s f p → LocatedFits (located_by p)
  by_part good (of_service a e) i = (i.rises, omega (arith, i.ends, at_most_145 s (both s f good).0))
  by_part good (of_factory a e) i = (i.rises, omega (arith, i.ends, at_most_145 f (both s f good).1))

  pub located-most : ForOk (located_of s f tag) LocatedFits
  unfolding located_of
  located-most =
      chosen (λ (l : Result Located Refusal). ForOk l LocatedFits) (good_sheets s f)
      (λ good. of_value LocatedFits (by_part good (part_of s f tag) (part_in s f tag)))
      (λ _. of_refusal LocatedFits)
