-- `pack::run_sound` meets its contract: at most 65,535 mAh in mA·ms, 0 with none open.
-- Assumes nothing.
use mathlib.Core.Path.{refl}
use Rattle.pack.specs.Sound.{run_sound}
use Rattle.pack.proofs.run_sound.Goals as goal

pub returns : goal.returns
unfolding run_sound
returns c = refl
