-- `alarms::terminate_discharge` meets its contract.
-- Assumes nothing.
use borrow.Author.Rules.{rules}
use Rattle.alarms.proofs.terminate_discharge.Goals as goal

pub returns : goal.returns
returns c = simp c.discharge_ends.ensures
