-- `alarms::charger_alarm` meets its contract.
-- Assumes nothing.
use borrow.Author.Rules.{rules}
use Rattle.alarms.proofs.charger_alarm.Goals as goal

pub returns : goal.returns
returns c = simp (c.over_temp.ensures, c.terminate_charge.ensures)
