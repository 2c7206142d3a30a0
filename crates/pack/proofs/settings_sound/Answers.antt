-- `pack::settings_sound` meets its contract.
-- Assumes nothing.
use mathlib.Core.Path.{refl}
use Rattle.pack.specs.Sound.{settings_sound}
use Rattle.pack.proofs.settings_sound.Goals as goal

pub returns : goal.returns
unfolding settings_sound
returns c = refl
