-- `pack::timers_sound` meets its contract: the conditions in their order.
-- Assumes nothing.
use mathlib.Core.Bool.{Bool, true, false, beq}
use mathlib.Core.Path.{◌≡◌, refl}
use Rattle.pack.specs.Sound.{exactly, timers_sound}
use Rattle.pack.proofs.timers_sound.Goals as goal

-- two tests compared
compared : (a b : Bool) → beq a b ≡ exactly a b
compared true true = refl
compared true false = refl
compared false true = refl
compared false false = refl

pub returns : goal.returns
unfolding timers_sound
returns c = simp compared
