use mathlib.Core.Path.{◌∙◌}
use native.Mathlib.Omega.{arith}
use Rattle.sheet.proofs.Shift.{four_each}
use Rattle.sheet_steps.proofs.Walk.{lay-turn, lay-end}
use Rattle.sheet_steps.proofs.lay.Goals as goal

pub loop-i-preserved : goal.loop-i-preserved
loop-i-preserved c =
    let at = c.loop-i in
    let e = four_each at.i (omega (arith, c.requires, c.loop-i-test.true)) in
    (omega arith, lay-turn _ _ _ _ _ at.invariant.1 _ c.loop-i-test.true (omega arith) (rw e at c.from-size.ensures) c.to_le_bytes.ensures (rw e at c.put_bytes.ensures), c.put_bytes.auto.room ∙ at.invariant.2)

pub returns : goal.returns
returns c = lay-end _ _ _ _ _ c.loop-i.invariant.1 c.loop-i-test.false
