-- The lowest row: which it is, that it is the only one, and that the order by products makes it one.
-- Assumes nothing.
use mathlib.Core.Path.{◌≡◌, refl, sym, ap, ◌∙◌}
use mathlib.Core.Bool.{Bool, true, false}
use mathlib.Core.List.{List, [], ◌∷◌}
use mathlib.Core.Logic.{◌⊎◌, inl, inr}
use Prim.Native.Nat.{ℕ, zero, suc, ◌*◌, ◌≤◌, ◌<◌}
use native.Mathlib.Omega.{arith}
use lib.Dec.{leb}
use lib.ListN.{length, length-append, get_or-append}
use lib.Seq.{get_or-append_seam}
use borrow.Author.Tests.{leb-true, leb-false}
use Rattle.std.specs.Prelude.{Some}
use Rattle.shelf.specs.Shelf.{any_bad, at_place, no_row}
use Rattle.shelf.specs.Ratios.{All, AtMost, Under}
use Rattle.shelf.specs.declared.Row.{Row}
use Rattle.shelf_row.specs.declared.Figures.{Figures}
use Rattle.shelf.proofs.Arith.{ratio_le}
use Rattle.shelf.proofs.Low.{Split, split, all_full, lowest_is}
use Rattle.shelf_laws.specs.Promises.{row, IsLowest, LowestIs, OneLowest, Ordered}
use Rattle.shelf_laws.proofs.Cases.{served}

pub all_at : (P : Row → Type 0) (xs : List Row) → All P xs → (k : ℕ) → k < length xs → P (row xs k)
all_at P [] h k l = absurd (omega arith)
all_at P (x ∷ xs) h zero l = h.0
all_at P (x ∷ xs) h (suc k) l = all_at P xs h.1 k (omega arith)

module _ (rows : List Row) (w : Split rows) where
  row_is : row rows (length w.before) ≡ w.row
  row_is = ap (λ (l : List Row). row l (length w.before)) w.is ∙ get_or-append_seam w.before w.row w.after no_row

  before-is : (k : ℕ) → k < length w.before → row rows k ≡ row w.before k
  before-is k l = ap (λ (l : List Row). row l k) w.is ∙ get_or-append w.before (w.row ∷ w.after) no_row k l

  of-split : IsLowest rows (length w.before)
  of-split =
      record {
        within = omega (arith, ap length w.is, length-append w.before (w.row ∷ w.after));
        least = λ k l. rw row_is (all_at (AtMost w.row) rows w.least k l);
        first = λ k l. rw (row_is, before-is k l) (all_at (Under w.row) w.before w.first k l);
      }

some_split : (rows : List Row) → any_bad rows ≡ false → 0 < length rows → Split rows
some_split [] g l = absurd (omega arith)
some_split (r ∷ rows) g l = split r rows (all_full (r ∷ rows) g)

pub lowest_row : LowestIs
lowest_row rows f h l =
    let g = served rows f h in
    let w : Split rows = some_split rows g.0.fine l in (
      length w.before,
      ap (λ (f : Figures). f.lowest) g.1 ∙ lowest_is rows w ∙ ap (λ (r : Row). Some (at_place r (length w.before))) (sym (row_is rows w)),
      of-split rows w,
    )

not_earlier : (rows : List Row) (p q : ℕ) → IsLowest rows p → IsLowest rows q → p < q → ⊥
not_earlier rows p q a b l =
    let above = a.least q b.within in
    let below = b.first p l in
    omega arith

pub one_lowest : OneLowest
one_lowest rows p q a b =
    let left : p < q → ⊥ = not_earlier rows p q a b in
    let right : q < p → ⊥ = not_earlier rows q p b a in
    omega arith

pub ordered : Ordered
ordered =
    record {
      reflexive = λ r. omega arith;
      comparable = λ r s. tested (r.remaining * s.full) (s.remaining * r.full) _ refl;
      transitive = λ r s t p. ratio_le r.remaining r.full s.remaining s.full t.remaining t.full p;
    }
  where
    tested : (a b : ℕ) (c : Bool) → leb a b ≡ c → (a ≤ b) ⊎ (b ≤ a)
    tested a b true e = inl (leb-true a b e)
    tested a b false e = let l = leb-false a b e in inr (omega arith)
