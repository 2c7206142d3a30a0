-- `pack::error_sound` meets its contract.
-- Assumes nothing.
use mathlib.Core.Path.{refl}
use Rattle.pack.specs.Sound.{error_sound}
use Rattle.pack.proofs.error_sound.Goals as goal

pub returns : goal.returns
unfolding error_sound
returns c = refl
