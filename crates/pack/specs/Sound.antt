-- Document 01, Answer numbers: when a state is sound, part by part.
-- Assumes nothing.
use Rattle.std.specs.Prelude.{ℕ, Bool, cond, not, ◌&&◌, ◌||◌, ltb, leb, eqb}
use Rattle.capacity.specs.Capacity.{milliamp_ms}
use Rattle.pack.specs.declared.Host.{Host}
use Rattle.pack.specs.declared.Pack.{Pack}
use Rattle.pack.specs.declared.Run.{Run}
use Rattle.pack.specs.declared.Settings.{Settings}
use Rattle.pack.specs.declared.State.{State}
use Rattle.pack.specs.declared.Tank.{Tank}
use Rattle.pack.specs.declared.Timers.{Timers}
use Rattle.recent.specs.Recent.{recent_sound}

-- one holds exactly when the other does
abbrev pub exactly : Bool → Bool → Bool
exactly a b = cond a b (not b)

-- two of the three set-up conditions hold: design capacity and design voltage aren't 0 (RULES 3.1)
unfoldable pub settings_sound : Settings → Bool
settings_sound s = not (eqb s.DesignCapacity 0) && not (eqb s.DesignVoltage 0)

-- the third holds, full isn't 0, and charge lies between 0 and full (RULES 3.1, 3.2)
unfoldable pub tank_sound : Tank → Bool
tank_sound t = not (eqb t.full 0) && leb t.charge (milliamp_ms t.full)

-- toward the next cycle less than one design capacity (RULES 3.11)
unfoldable pub toward_sound : ℕ → ℕ → Bool
toward_sound design toward = ltb toward (milliamp_ms design)

-- in a run at most 65,535 mAh, and 0 with none open (RULES 3.12)
unfoldable pub run_sound : Run → Bool
run_sound u = leb u.drawn (milliamp_ms 65535) && (u.opened || eqb u.drawn 0)

-- the hold is at most 60,000, the alarm timer at most 10,000, the charger timer at most 29,999 and 0 while CHARGER_MODE is
-- set, and the alarm hold is 0 exactly when ALARM_MODE is clear (RULES 3.4 to 3.6)
unfoldable pub timers_sound : Host → Timers → Bool
timers_sound h t =
    leb t.hold 60000
    && leb t.alarm 10000
    && leb t.charger 29999 && (not h.ChargerMode || eqb t.charger 0)
    && exactly (eqb t.hold 0) (not h.AlarmMode)

-- the error code is at most 7 (RULES 3.7)
unfoldable pub error_sound : ℕ → Bool
error_sound code = leb code 7

-- all but the error code is sound (RULES 3.1 to 3.6, 3.11, 3.12)
unfoldable pub pack_sound : Pack → Bool
pack_sound p =
    settings_sound p.settings && tank_sound p.tank
    && toward_sound p.settings.DesignCapacity p.tank.toward && run_sound p.tank.run
    && recent_sound p.recent && timers_sound p.host p.timers

-- a state is sound when each of its parts is (RULES 3)
unfoldable pub sound_of : State → Bool
sound_of s = pack_sound s.pack && error_sound s.error
