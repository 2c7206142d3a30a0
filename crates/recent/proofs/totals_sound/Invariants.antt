-- `recent::totals_sound` meets its contract. The loop's invariant: whether the totals so far are.
-- Assumes nothing.
use Rattle.std.proofs.Common.{◌≡◌, take}
use Rattle.recent.specs.Recent.{totals_sound}
use Rattle.recent.proofs.totals_sound.Given as goal

abbrev pub invariant-loop-total : goal.invariant-loop-total
invariant-loop-total l = l.all ≡ totals_sound (take l.total-index l.totals)
