-- What the writer lays down: entries one after another are those of the choice, and lie as in its sheet. Assumes nothing.
use mathlib.Core.Path.{◌≡◌, refl, sym, ap, ◌∙◌}
use mathlib.Core.Bool.{Bool, true, false, cond, ◌&&◌, and-eq-true_iff, and_assoc, and-true, and-false}
use mathlib.Core.Logic.{◌⊎◌, inl, inr}
use mathlib.Core.List.{List, [], ◌∷◌, ◌++◌}
use Prim.Native.Nat.{ℕ, suc, ◌+◌, ◌*◌, ◌≤◌, ◌<◌}
use native.Mathlib.Omega.{arith}
use lib.Dec.{leb}
use lib.ListN.{length, set, length-append, length-set}
use lib.Seq.{sets, set_comm, length-sets}
use borrow.Author.Tests.{leb-true, le-leb, lt-leb}
use Rattle.std.specs.Prelude.{Result, Ok, Err}
use Rattle.refusals.specs.declared.Refusal.{Refusal}
use Rattle.refusals.specs.declared.Refusal.TheVariants.{NoFit}
use Rattle.std.proofs.Math.Option.{Option, none, some}
use Rattle.rooms.proofs.Rooms.{sets_append, then, front}
use Rattle.sheet.specs.Sheet.{Entry, rows_of, contents_of, bodies_of, old, sheet_of}
use Rattle.sheet.proofs.Entries.{bodies_append, bodies_length, rows_append, sheet_size}
use Rattle.sheet.proofs.Lengths.{rows_length}
use Rattle.sheet_writer.specs.declared.Cursor.{Cursor}
use Rattle.sheet_writer.specs.Writing.{entry_if, choice, short, writable, sheet_wrote, sheet_room}
use Rattle.sheet_writer.specs.Laying.{short_body, Place, laid, past, Put}

-- ---- entries and then others

short_append : (es ds : List Entry) → short (es ++ ds) ≡ short es && short ds
short_append [] ds = refl
short_append (e ∷ es) ds = rw (short_append es ds) (sym (and_assoc (leb (length e.body) 32) (short es) (short ds)))

-- ---- stores below others, before or after them

set_under : (l : List ℕ) (i j v : ℕ) (ws : List ℕ) → i < j → set (sets l j ws) i v ≡ sets (set l i v) j ws
set_under l i j v [] h = refl
set_under l i j w (x ∷ ws) h = set_under (set l j x) i (suc j) w ws (omega arith) ∙ ap (λ (m : List ℕ). sets m (suc j) ws) (set_comm l j i x w (λ e. omega arith))

sets_under : (l : List ℕ) (i j : ℕ) (vs ws : List ℕ) → i + length vs ≤ j → sets (sets l j ws) i vs ≡ sets (sets l i vs) j ws
sets_under l i j [] ws h = refl
sets_under l i j (v ∷ vs) ws h = rw (set_under l i j v ws (omega arith)) (sets_under (set l i v) (suc i) j vs ws (omega arith))

-- ---- one after another

module _ (room : List ℕ) (at : Cursor) (es ds : List Entry) (p : Place room at (es ++ ds)) where
  many : length (es ++ ds) ≡ length es + length ds
  many = length-append es ds

  bytes : length (bodies_of (es ++ ds)) ≡ length (bodies_of es) + length (bodies_of ds)
  bytes = bodies_length es ds

  smalls : (short es ≡ true) × (short ds ≡ true)
  smalls = (and-eq-true_iff (short es) (short ds)).0 (sym (short_append es ds) ∙ p.small)

  -- place for the others past the first
  pub place-past : {m : List ℕ} {next : Cursor} → Put room at es m next → Place m next ds
  place-past one =
      let n : length (laid room at es) ≡ length room = length-sets (sets room at.row (rows_of at.end es)) at.end (bodies_of es) ∙ length-sets room at.row (rows_of at.end es) in
      rw (one.0, one.1) (record { rows = omega (arith, p.rows, many); bodies = omega (arith, p.bodies, bytes, n); offsets = omega (arith, p.offsets, bytes); small = smalls.1 })

  laid-append : laid (laid room at es) (past at es) ds ≡ laid room at (es ++ ds)
  laid-append =
      let r : List ℕ = rows_of at.end es in
      let q : List ℕ = rows_of (at.end + length (bodies_of es)) ds in
      let row : at.row + 4 * length es ≡ at.row + length r = omega (arith, rows_length es at.end) in
      let under : at.row + 4 * length es + length q ≤ at.end = omega (arith, p.rows, many, rows_length ds (at.end + length (bodies_of es))) in
      ap (λ (m : List ℕ). sets m (at.end + length (bodies_of es)) (bodies_of ds)) (sets_under (sets room at.row r) (at.row + 4 * length es) at.end q (bodies_of es) under)
      ∙ sets_append (sets (sets room at.row r) (at.row + 4 * length es) q) at.end (bodies_of es) (bodies_of ds)
      ∙ ap (λ (m : List ℕ). sets m at.end (bodies_of es ++ bodies_of ds)) (then room at.row (at.row + 4 * length es) r q refl row)
      ∙ rw (bodies_append es ds, rows_append es ds at.end)

  past-append : past (past at es) ds ≡ past at (es ++ ds)
  past-append =
      let row : at.row + 4 * length es + 4 * length ds ≡ at.row + 4 * length (es ++ ds) = omega (arith, many) in
      let end : at.end + length (bodies_of es) + length (bodies_of ds) ≡ at.end + length (bodies_of (es ++ ds)) = omega (arith, bytes) in
      rw (row, end)

  -- the first and then the others are all of them
  pub joined : {m m' : List ℕ} {next last : Cursor} → Put room at es m next → Put m next ds m' last → Put room at (es ++ ds) m' last
  joined {m} {m'} {next} {last} one others =
      (others.0 ∙ ap (λ (c : Cursor). past c ds) one.0 ∙ past-append, others.1 ∙ rw (one.0, one.1) laid-append)

-- ---- the choice

one_short : (tag : ℕ) (b : Option (List ℕ)) → short (entry_if tag b) ≡ short_body b
one_short tag (some body) = and-true (leb (length body) 32)
one_short tag none = refl

one_most : (tag : ℕ) (b : Option (List ℕ)) → length (entry_if tag b) ≤ 1
one_most tag (some body) = omega arith
one_most tag none = omega arith

module _ (b c d e : Option (List ℕ)) where
  pub choice-short : short (choice b c d e) ≡ short_body b && short_body c && (short_body d && short_body e)
  choice-short =
      rw (short_append (entry_if 0x20 b) (entry_if 0x21 c ++ (entry_if 0x22 d ++ entry_if 0x23 e)), short_append (entry_if 0x21 c) (entry_if 0x22 d ++ entry_if 0x23 e), short_append (entry_if 0x22 d) (entry_if 0x23 e), one_short 0x20 b, one_short 0x21 c, one_short 0x22 d, one_short 0x23 e)
      (sym (and_assoc (short_body b) (short_body c) (short_body d && short_body e)))

  pub choice-count : length (choice b c d e) ≡ length (entry_if 0x20 b) + length (entry_if 0x21 c) + length (entry_if 0x22 d) + length (entry_if 0x23 e)
  choice-count =
      omega (
        arith,
        length-append (entry_if 0x20 b) (entry_if 0x21 c ++ (entry_if 0x22 d ++ entry_if 0x23 e)),
        length-append (entry_if 0x21 c) (entry_if 0x22 d ++ entry_if 0x23 e),
        length-append (entry_if 0x22 d) (entry_if 0x23 e),
      )

  pub choice-few : length (choice b c d e) ≤ 4
  choice-few = omega (arith, choice-count, one_most 0x20 b, one_most 0x21 c, one_most 0x22 d, one_most 0x23 e)

-- ---- the sheet

bodies_most : (es : List Entry) → short es ≡ true → length (bodies_of es) ≤ 32 * length es
bodies_most [] h = omega arith
bodies_most (e ∷ es) h =
    let s = (and-eq-true_iff (leb (length e.body) 32) (short es)).0 h in
    omega (arith, leb-true (length e.body) 32 s.0, bodies_most es s.1, length-append e.body (bodies_of es))

sheet_most : (es : List Entry) → length es ≤ 4 → short es ≡ true → length (sheet_of old es) ≤ 145
sheet_most es few h = omega (arith, sheet_size old es, bodies_most es h)

module _ (es : List Entry) (room : List ℕ) where
  -- what is returned, and what the room then holds
  abbrev pub Owed : Result ℕ Refusal → List ℕ → Type 0
  Owed returned after = (returned ≡ sheet_wrote es room) × (after ≡ sheet_room es room)

  pub refused : (short es ≡ false) ⊎ (length room < 145) → Owed (Err NoFit) room
  unfolding sheet_wrote sheet_room writable
  refused (inl long) = (rw long, rw long)
  refused (inr small) = (rw (lt-leb 145 (length room) small, and-false (short es)), rw (lt-leb 145 (length room) small, and-false (short es)))

  pub facts : writable es room ≡ true → (short es ≡ true) × (145 ≤ length room)
  unfolding writable
  facts ok = let a = (and-eq-true_iff (short es) (leb 145 (length room))).0 ok in (a.0, leb-true 145 (length room) a.1)

  pub allowed : short es ≡ true → 145 ≤ length room → writable es room ≡ true
  unfolding writable
  allowed small fits = rw (small, le-leb 145 (length room) fits)

  module _ (few : length es ≤ 4) (ok : writable es room ≡ true) (n : ℕ) (count : n ≡ length es) where
    abbrev start : Cursor
    start = record { row = 1; end = 1 + 4 * n }

    pub place-all : Place (set room 0 n) start es
    place-all =
        let l : length (set room 0 n) ≡ length room = simp length-set in
        let b = bodies_most es (facts ok).0 in
        record { rows = omega arith; bodies = omega (arith, (facts ok).1); offsets = omega arith; small = (facts ok).0 }

    -- byte n, and then the rows and the bodies of all
    pub written : {m : List ℕ} {last : Cursor} → Put (set room 0 n) start es m last → Owed (Ok last.end) m
    unfolding sheet_wrote sheet_room sheet_of old
    written {m} {last} all =
        let C : List ℕ = contents_of old es in
        let f : 1 + 4 * n ≡ 0 + length C = omega (arith, rows_length es (1 + 4 * length es)) in
        let l : last.end ≡ length (sheet_of old es) = ap (λ (a : Cursor). a.end) all.0 ∙ omega (arith, sheet_size old es) in
        let s : sets (set room 0 n) 1 (rows_of (1 + 4 * n) es) ≡ sets room 0 C = let z : 0 + length es ≡ length es = omega arith in rw (count, z) in
        (rw (ok, l), rw ok (all.1 ∙ then room 0 (1 + 4 * n) C (bodies_of es) s f ∙ front (sheet_of old es) room (omega (arith, sheet_most es few (facts ok).0, (facts ok).1))))

-- the length that writing a choice gives is at most 145
pub wrote_most : (b c d e : Option (List ℕ)) (room : List ℕ) (n : ℕ) → sheet_wrote (choice b c d e) room ≡ Ok n → n ≤ 145
unfolding sheet_wrote
wrote_most b c d e room n is = by-test (writable (choice b c d e) room) refl is
  where
    by-test : (t : Bool) → writable (choice b c d e) room ≡ t → cond t (Ok (length (sheet_of old (choice b c d e)))) (Err NoFit) ≡ Ok n → n ≤ 145
    by-test true ok h = let l : length (sheet_of old (choice b c d e)) ≡ n = cc in rw (← l) (sheet_most (choice b c d e) (choice-few b c d e) (facts (choice b c d e) room ok).0)
    by-test false bad h = let z : ◌≡◌ {A = ℕ} 0 1 = cc in absurd (omega arith)
