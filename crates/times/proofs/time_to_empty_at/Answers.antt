-- `times::time_to_empty_at` meets its contract.
-- Assumes nothing.
use Rattle.times.proofs.time_to_empty_at.Goals as goal

pub returns : goal.returns
returns c = simp (c.by_rate.ensures, c.rate_of-rate.ensures, c.remaining_capacity-remaining.ensures, c.falls-flows.ensures)
