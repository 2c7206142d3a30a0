-- `alarms::discharging_now` meets its contract.
-- Assumes nothing.
use borrow.Author.Rules.{rules}
use Rattle.alarms.proofs.discharging_now.Goals as goal

pub returns : goal.returns
returns c = simp c.rises.ensures
