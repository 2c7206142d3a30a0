-- `alarms::remaining_time_low` meets its contract.
-- Assumes nothing.
use borrow.Author.Rules.{rules}
use Rattle.alarms.proofs.remaining_time_low.Goals as goal

pub returns : goal.returns
returns c = simp (c.time_word-left.ensures, c.average_time_to_empty.ensures)
