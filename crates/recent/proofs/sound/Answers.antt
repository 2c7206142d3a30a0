-- `recent::sound` meets its contract.
-- Assumes nothing.
use Rattle.std.proofs.Common.{arith}
use Rattle.std.proofs.lemmas.Bool.Decides.{nat_tests}
use Rattle.recent.specs.Recent.{recent_sound}
use Rattle.recent.proofs.sound.Goals as goal

pub returns-then-totals_sound : goal.returns-then-totals_sound
unfolding recent_sound
returns-then-totals_sound c = grind (arith, nat_tests)

pub returns-else-totals_sound : goal.returns-else-totals_sound
unfolding recent_sound
returns-else-totals_sound c = grind (arith, nat_tests)
