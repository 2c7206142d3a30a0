-- `fit` meets its contract: the rows passed fit, and the rest decides as the whole does. Assumes nothing.
use Rattle.std.proofs.Common.{ap, ◌∙◌, arith}
use Rattle.std.specs.Iterator.Adapters.{zip_first, zip_second}
use Rattle.std.specs.Slice.Iter.{iter_rest}
use Rattle.std.proofs.lemmas.Slice.Zip.{either_empty_from_Zip}
use Rattle.capture_writer.proofs.Given.{none_tested, unfit_mark, unfit_size, more, all_tested, given_uneven, given_over, given_unfit, given_told}
use Rattle.capture_writer.proofs.fit.Goals.{then-mark-gt1-via-then-mark-gt1, then-mark-gt1-via-else-mark-gt1+then-length-gt-LONGEST}
use Rattle.capture_writer.proofs.fit.Goals as goal

pub returns-then-marks-lengths : goal.returns-then-marks-lengths
returns-then-marks-lengths c = grind (arith, given_uneven, given_over)

pub loop-mark-init : goal.loop-mark-init
loop-mark-init c =
    let from = c.into_iter-mark-iterator.ensures.into_iter_gives in
    let z = c.zip-mark-items.ensures in
    none_tested
    (ap (λ x. iter_rest (zip_first x)) from ∙ ap iter_rest z.first ∙ c.iter.ensures.rest)
    (ap (λ x. iter_rest (zip_second x)) from ∙ z.second.0)
    c.if-marks-lengths.false

pub returns-then-mark-gt1 : goal.returns-then-mark-gt1
returns-then-mark-gt1 c =
    let h = c.loop-mark.invariant in
    let s = c.in-Some.ensures.steps in
    given_unfit _ _ _ (elim c.then-mark-gt1.branch [
      | then-mark-gt1-via-then-mark-gt1 w ↦ unfit_mark h s.0 s.1 (omega arith)
      | then-mark-gt1-via-else-mark-gt1+then-length-gt-LONGEST w ↦ unfit_size h s.0 s.1 (omega arith)
    ])

pub overflow_add-total : goal.overflow_add-total
overflow_add-total c = let h = c.loop-mark.invariant in omega (arith, h.most)

pub loop-mark-preserved : goal.loop-mark-preserved
loop-mark-preserved c =
    let h = c.loop-mark.invariant in
    let s = c.in-Some.ensures.steps in
    rw c.from-total.ensures (more h s.0 s.1 (omega arith) (omega arith))

pub returns : goal.returns
returns c =
    let h = c.loop-mark.invariant in
    let all = all_tested _ _ _ _ h (either_empty_from_Zip c.loop-mark.mark-iterator c.next.new.self c.next.result c.in-None.is c.next.ensures.steps) in
    given_told _ _ _ _ c.if-marks-lengths.false (omega arith) all.0 all.1
