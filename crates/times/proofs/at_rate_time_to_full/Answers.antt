-- `times::at_rate_time_to_full` meets its contract.
-- Assumes nothing.
use Rattle.times.proofs.at_rate_time_to_full.Goals as goal

pub returns-then-p : goal.returns-then-p
returns-then-p c = simp c.if-p.true

pub returns : goal.returns
returns c = simp (c.by_rate.ensures, c.size-rate.ensures.is, c.missing_capacity-left.ensures, c.rises-flows.ensures, c.if-p.false)
