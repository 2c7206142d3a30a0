-- `times::average_time_to_full` meets its contract.
-- Assumes nothing.
use Rattle.times.proofs.average_time_to_full.Goals as goal

pub returns : goal.returns
returns c = simp (c.by_rate.ensures, c.rate_of-rate.ensures, c.missing_capacity-left.ensures, c.rises-flows.ensures, c.average_current-current.ensures)
