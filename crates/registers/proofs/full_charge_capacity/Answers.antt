-- `registers::full_charge_capacity` meets its contract.
-- Assumes nothing.
use Rattle.registers.specs.Registers.{full_charge_capacity}
use Rattle.registers.proofs.full_charge_capacity.Goals as goal

pub returns : goal.returns
unfolding full_charge_capacity
returns c = c.capacity_of.ensures
