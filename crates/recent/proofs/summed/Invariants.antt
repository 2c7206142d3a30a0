-- `recent::summed` meets its contract. The loop's invariant: the sum of the totals so far.
-- Assumes nothing.
use Rattle.std.proofs.Common.{◌≡◌}
use Rattle.recent.specs.Recent.{sum_of}
use Rattle.recent.proofs.summed.Given as goal

abbrev pub invariant-loop-total : goal.invariant-loop-total
invariant-loop-total l = l.sum ≡ sum_of l.totals l.total-index
