-- `is_capture` meets its contract: the rows passed fit, and their lengths are added up. Assumes nothing.
use Rattle.std.proofs.Common.{◌≡◌, ℕ, List, get_or, ap, sym, ◌∙◌, arith}
use Rattle.std.specs.Slice.Iter.{chunks_exact_rest, chunks_exact_size}
use Rattle.std.proofs.lemmas.List.{length_push}
use Rattle.capture.proofs.Check.{short, none_passed, one_more, misfit, passed_all}
use Rattle.capture.proofs.is_capture.Goals as goal

pub returns-in_default : goal.returns-in_default
returns-in_default c = short _ (omega (arith, c.in_default.ensures.cases))

pub returns-in_default-split_at_checked : goal.returns-in_default-split_at_checked
returns-in_default-split_at_checked c =
    let cut = c.in-Some.ensures.cases in
    let count : get_or c.args.s.now 0 0 ≡ c.in-Some.count.now = ap (λ (l : List ℕ). get_or l 0 0) cut.0 in
    short _ (omega (arith, c.type_inv.s 0, c.in_default-split_at_checked.ensures.cases))

pub loop-row-init : goal.loop-row-init
loop-row-init c =
    let cut = c.in-Some.ensures.cases in
    let parts = c.in-Some-split_at_checked.ensures.cases in
    let count : get_or c.args.s.now 0 0 ≡ c.in-Some.count.now = ap (λ (l : List ℕ). get_or l 0 0) cut.0 in
    let from = c.into_iter-row-iterator.ensures.into_iter_gives in
    let chunks = c.chunks_exact-row-items.ensures in
    let byte = c.type_inv.s 0 in
    (ap chunks_exact_size from ∙ chunks.size, none_passed cut.0 (omega arith) (omega arith) parts.0 parts.1 parts.2 (ap chunks_exact_rest from ∙ chunks.rest))

pub returns-then-not-fits : goal.returns-then-not-fits
returns-then-not-fits c =
    let i = c.loop-row.invariant in
    let step = c.in-Some-row.ensures.steps.1 in
    misfit i.1 _ _ step.0 (step.1 ∙ i.0) (sym c.fits.ensures ∙ c.if-not-fits.true)

pub overflow_add-total : goal.overflow_add-total
overflow_add-total c = let i = c.loop-row.invariant in omega (arith, i.1.most, i.1.many, i.1.byte)

pub loop-row-preserved : goal.loop-row-preserved
loop-row-preserved c =
    let i = c.loop-row.invariant in
    let steps = c.in-Some-row.ensures.steps in
    (steps.0 ∙ i.0, rw (length_push c.loop-row.yielded c.in-Some-row.row, c.from-total.ensures) (one_more i.1 _ _ steps.1.0 (steps.1.1 ∙ i.0) (sym c.fits.ensures ∙ c.if-not-fits.false)))

pub returns : goal.returns
returns c = let i = c.loop-row.invariant in passed_all i.1 (omega (arith, c.in-None.ensures.steps.1.0, i.0))
