-- `alarms::terminate_charge` meets its contract.
-- Assumes nothing.
use borrow.Author.Rules.{rules}
use Rattle.alarms.proofs.terminate_charge.Goals as goal

pub returns : goal.returns
returns c = simp (c.over_temp.ensures, c.charge_full.ensures, c.rises.ensures)
