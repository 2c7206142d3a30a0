-- `registers::relative_state_of_charge` meets its contract.
-- Assumes nothing.
use Rattle.pack.proofs.Soundness.{tank_facts}
use Rattle.registers.proofs.relative_state_of_charge.Goals as goal

pub relative-requires : goal.relative-requires
relative-requires c = let f = tank_facts c.args.p.tank c.requires in (f.full, f.charge)

pub returns : goal.returns
returns c = c.relative.ensures
