-- Request R-10: when the state of a thirteen-cell pack is sound, part by part.
-- Assumes nothing.
use Rattle.std.specs.Prelude.{Bool, not, ◌&&◌, leb, eqb}
use Rattle.capacity.specs.Capacity.{milliamp_ms}
use Rattle.pack.specs.Sound.{error_sound}
use Rattle.recent.specs.Recent.{recent_sound}
use Rattle.thirteen_pack.specs.declared.Fixed.{Fixed}
use Rattle.thirteen_pack.specs.declared.Level.{Level}
use Rattle.thirteen_pack.specs.declared.Thirteen.{Thirteen}
use Rattle.thirteen_pack.specs.declared.ThirteenState.{ThirteenState}

-- design capacity and design voltage aren't 0 (RULES 15.3)
abbrev pub fixed_sound : Fixed → Bool
fixed_sound f = not (eqb f.DesignCapacity 0) && not (eqb f.DesignVoltage 0)

-- full isn't 0, and charge lies between 0 and full (RULES 15.3)
abbrev pub level_sound : Level → Bool
level_sound l = not (eqb l.full 0) && leb l.charge (milliamp_ms l.full)

-- all but the error code is sound (RULES 15.3)
unfoldable pub pack_sound : Thirteen → Bool
pack_sound p = fixed_sound p.fixed && level_sound p.level && recent_sound p.recent

-- a state is sound when each of its parts is (RULES 15.3)
unfoldable pub sound_of : ThirteenState → Bool
sound_of s = pack_sound s.pack && error_sound s.error
