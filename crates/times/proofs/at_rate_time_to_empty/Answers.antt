-- `times::at_rate_time_to_empty` meets its contract.
-- Assumes nothing.
use Rattle.times.proofs.at_rate_time_to_empty.Goals as goal

pub returns : goal.returns
returns c = simp (c.by_rate.ensures, c.size-rate.ensures.is, c.remaining_capacity-remaining.ensures, c.falls-flows.ensures)
