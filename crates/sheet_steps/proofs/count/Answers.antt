use native.Mathlib.Omega.{arith}
use Rattle.sheet.proofs.Shift.{four_each}
use Rattle.sheet_steps.proofs.Walk.{one_or_none, count_turn, count-end}
use Rattle.sheet_steps.proofs.count.Goals as goal

pub loop-i-preserved : goal.loop-i-preserved
loop-i-preserved c =
    let more = one_or_none _ (rw (four_each c.loop-i.i (omega (arith, c.requires, c.loop-i-test.true))) at c.from-below.ensures) in
    (omega arith, count_turn _ _ _ _ _ _ c.loop-i.invariant.1 _ c.loop-i-test.true more.1)

pub returns : goal.returns
returns c = count-end _ _ _ _ _ _ c.loop-i.invariant.1 c.loop-i-test.false
