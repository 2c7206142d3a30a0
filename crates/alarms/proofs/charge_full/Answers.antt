-- `alarms::charge_full` meets its contract.
-- Assumes nothing.
use borrow.Author.Rules.{rules}
use Rattle.alarms.proofs.charge_full.Goals as goal

pub returns : goal.returns
returns c = simp c.milliamp_ms.ensures.is
