-- `alarms::remaining_capacity_low` meets its contract.
-- Assumes nothing.
use borrow.Author.Rules.{rules}
use Rattle.alarms.proofs.remaining_capacity_low.Goals as goal

pub returns : goal.returns
returns c = simp c.remaining_capacity.ensures
