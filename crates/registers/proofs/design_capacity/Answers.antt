-- `registers::design_capacity` meets its contract.
-- Assumes nothing.
use Rattle.registers.specs.Registers.{design_capacity}
use Rattle.registers.proofs.design_capacity.Goals as goal

pub returns : goal.returns
unfolding design_capacity
returns c = c.capacity_of.ensures
