-- `monday::read` keeps at most 65 rows, and no more lines than bytes are counted before the last.
-- Assumes nothing.
use Rattle.std.proofs.Common.{◌≤◌}
use Rattle.monday.proofs.read.Given as goal

abbrev pub invariant-loop-b : goal.invariant-loop-b
invariant-loop-b l = record { rows : l.t.count ≤ 65; lines : l.t.lines ≤ l.b-index }
