-- `thirteen_words::run_time_to_empty` meets its contract: by its parts.
-- Assumes nothing.
use borrow.Author.Rules.{rules}
use Rattle.thirteen_words.proofs.run_time_to_empty.Goals as goal

pub returns : goal.returns
returns c =
    simp (c.by_rate.ensures, c.size-rate.ensures.is, c.remaining_capacity-left.ensures, c.falls-flows.ensures)
