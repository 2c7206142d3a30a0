-- `alarms::charging_current` meets its contract.
-- Assumes nothing.
use borrow.Author.Rules.{rules}
use Rattle.alarms.proofs.charging_current.Goals as goal

pub returns-then-terminate_charge : goal.returns-then-terminate_charge
returns-then-terminate_charge c = simp (← c.terminate_charge.ensures, c.if-terminate_charge.true)

pub returns : goal.returns
returns c = simp (← c.terminate_charge.ensures, c.if-terminate_charge.false)
