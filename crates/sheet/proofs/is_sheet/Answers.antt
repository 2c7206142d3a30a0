use Rattle.std.proofs.Common.{ℕ, Some, None, List, [], ◌∷◌, ◌<◌, length, get_or, slice_get, ◌≡◌, ◌+◌, ◌*◌, ◌%◌, refl, sym, ◌∙◌, arith}
use Rattle.sheet.specs.Sheet.{old, is_sheet, rows_ok}
use Rattle.sheet.proofs.Rows.{refused, by_rows, row-bad, row-good, rows_end, rows_start}
use Rattle.sheet.proofs.Shift.{four_each}
use Rattle.sheet.proofs.is_sheet.Goals as goal
use Rattle.std.proofs.lemmas.Option.{slice_get_within, get_or_from_slice_get}
use Rattle.sheet.proofs.is_sheet.Goals.{Else-size-first}

-- with no first byte there are no bytes
none_first : (xs : List ℕ) → None ≡ slice_get xs 0 → 0 < length xs → ⊥
none_first [] h some = omega arith
none_first (x ∷ xs) h some = let z : ◌≡◌ {A = ℕ} 0 1 = cc in omega arith

pub returns-in_default : goal.returns-in_default
returns-in_default c = refused old _ (λ k. none_first _ c.in_default.ensures.value k.some)

-- the first byte, and that there is one
first_is : (xs : List ℕ) (x : ℕ) → Some x ≡ slice_get xs 0 → (0 < length xs) × (get_or xs 0 0 ≡ x)
first_is xs x is = (slice_get_within xs 0 x (sym is), get_or_from_slice_get xs 0 x 0 (sym is))

pub returns-then-n-gt4 : goal.returns-then-n-gt4
unfolding old
returns-then-n-gt4 c =
    let first = first_is c.args.bytes.now c.in-Some.field-0.now c.in-Some.ensures.value in
    refused old _ (λ k. omega (arith, k.marked, k.few, k.fits, first.1, c.from-n.ensures, c.then-n-gt4.either))

-- past its first tests the bytes are a sheet where their rows are right
by-rows : (c : Else-size-first) → is_sheet c.args.bytes.now ≡ rows_ok old.kinds c.from-n.result c.args.bytes.now 1 0 (1 + c.from-n.result * 4 % 18446744073709551616)
unfolding old
by-rows c =
    let first = first_is c.args.bytes.now c.in-Some.field-0.now c.in-Some.ensures.value in
    let n : c.from-n.result ≡ get_or c.args.bytes.now 0 0 = c.from-n.ensures ∙ sym first.1 in
    rw (four_each c.from-n.result (omega (arith, c.if-n-gt4.false))) (by_rows old _ _ _ refl (omega (arith, n, c.if-n-gt4.false)) first.0 (omega (arith, n)) c.if-n-gt4.false (omega (arith, c.if-size-first.false, c.if-n-gt4.false)))

pub loop-i-init : goal.loop-i-init
loop-i-init c = record { near = omega arith; rest = rows_start _ _ _ _ }

pub returns-then-not-row_ok : goal.returns-then-not-row_ok
returns-then-not-row_ok c =
    sym (by-rows (goal.at.returns-then-not-row_ok c).Else-size-first ∙ row-bad _ _ _ _ _ _ _ c.loop-i.invariant.rest c.loop-i-test.true (rw (four_each c.loop-i.i (omega arith)) at (sym c.row_ok.ensures ∙ c.if-not-row_ok.true)))

pub loop-i-preserved : goal.loop-i-preserved
loop-i-preserved c = record {
  near = omega arith;
  rest = row-good _ _ _ _ _ _ _ c.loop-i.invariant.rest _ _ c.loop-i-test.true (rw (four_each c.loop-i.i (omega arith)) at (sym c.row_ok.ensures ∙ c.if-not-row_ok.false)) (rw (four_each c.loop-i.i (omega arith)) at c.from-low.ensures) (rw (four_each c.loop-i.i (omega arith)) at c.from-end.ensures);
}

pub returns : goal.returns
returns c = sym (by-rows (goal.at.returns c).Else-size-first ∙ rows_end _ _ _ _ _ _ _ c.loop-i.invariant.rest c.loop-i-test.false)
