-- `registers::remaining_capacity` meets its contract.
-- Assumes nothing.
use native.Mathlib.Omega.{arith}
use Rattle.pack.proofs.Soundness.{tank_facts}
use Rattle.registers.specs.Registers.{remaining_capacity}
use Rattle.registers.proofs.remaining_capacity.Goals as goal

pub energy-requires : goal.energy-requires
energy-requires c = omega (arith, (tank_facts c.args.p.tank c.requires).charge)

pub returns-then-p : goal.returns-then-p
unfolding remaining_capacity
returns-then-p c = simp (c.capped.ensures, c.energy.ensures, c.if-p.true)

pub overflow_cast-result : goal.overflow_cast-result
overflow_cast-result c = omega (arith, (tank_facts c.args.p.tank c.requires).charge)

pub returns : goal.returns
unfolding remaining_capacity
returns c = simp c.if-p.false
