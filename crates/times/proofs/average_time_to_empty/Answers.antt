-- `times::average_time_to_empty` meets its contract.
-- Assumes nothing.
use Rattle.times.proofs.average_time_to_empty.Goals as goal

pub returns : goal.returns
returns c = simp (c.time_to_empty_at.ensures, c.average_current.ensures)
