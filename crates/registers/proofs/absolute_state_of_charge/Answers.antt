-- `registers::absolute_state_of_charge` meets its contract.
-- Assumes nothing.
use native.Mathlib.Omega.{arith}
use Rattle.pack.proofs.Soundness.{settings_facts, tank_facts}
use Rattle.registers.proofs.absolute_state_of_charge.Goals as goal

pub percent-requires : goal.percent-requires
percent-requires c =
    (omega (arith, (tank_facts c.args.p.tank c.requires.1).charge), (settings_facts c.args.p.settings c.requires.0).design)

pub returns : goal.returns
returns c = simp (c.capped.ensures, c.percent.ensures)
