-- `pec_demo::pec_of_text` meets its contract.
-- Assumes nothing.
use Rattle.std.proofs.Common.{arith, ◌≡◌}
use Rattle.std.specs.Slice.Iter.{chunks_exact_size}
use Rattle.pec_demo.proofs.Texts.{text_next, text_end}
use Rattle.pec_demo.proofs.pec_of_text.Goals as goal

pub loop-pair-preserved : goal.loop-pair-preserved
loop-pair-preserved c =
    let at = c.loop-pair in
    let step = c.in-Some.ensures.steps in
    let same : chunks_exact_size c.next.new.self ≡ 2 = omega (arith, step, at.invariant.0) in
    (same, text_next c.in-Some.pair.now _ _ at.acc _ _ _ step.1.0 (omega (arith, step.1.1, at.invariant.0)) c.byte.ensures c.pec_from-acc.ensures at.invariant.1)

pub returns : goal.returns
returns c =
    let at = c.loop-pair in
    text_end _ at.acc _ (omega (arith, c.in-None.ensures.steps, at.invariant.0)) at.invariant.1
