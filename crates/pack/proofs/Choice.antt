-- The choice of set-up has no part in soundness.
-- Assumes nothing.
use mathlib.Core.Bool.{Bool}
use mathlib.Core.Path.{◌≡◌, refl}
use Rattle.pack.specs.Choice.{state_as}
use Rattle.pack.specs.Sound.{settings_sound, pack_sound, sound_of}
use Rattle.pack.specs.declared.State.{State}

pub sound_as : (plain : Bool) (s : State) → sound_of (state_as plain s) ≡ sound_of s
unfolding settings_sound pack_sound sound_of
sound_as plain s = refl
