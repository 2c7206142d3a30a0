-- `alarms::any_alarm` meets its contract.
-- Assumes nothing.
use borrow.Author.Rules.{rules}
use Rattle.alarms.proofs.any_alarm.Goals as goal

pub returns : goal.returns
returns c = simp (c.remaining_time_low.ensures, c.remaining_capacity_low.ensures, c.terminate_discharge.ensures, c.charger_alarm.ensures)
