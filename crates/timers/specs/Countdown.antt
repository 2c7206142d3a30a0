-- Document 01, Clock and broadcasts: the hold, the alarm timer and the charger timer.
-- Assumes nothing.
use Rattle.std.specs.Prelude.{ℕ, ◌+◌, ◌-◌, min, Bool, cond, not, ◌&&◌, eqb}
use Rattle.pack.specs.declared.Host.{Host}
use Rattle.pack.specs.declared.Timers.{Timers}

-- the hold counts down by elapsed (RULES 7.5)
abbrev pub hold_after : Timers → ℕ → ℕ
hold_after t elapsed = t.hold - elapsed

-- at 0 the bit clears (RULES 7.5)
abbrev pub host_after : Host → ℕ → Host
host_after h hold =
    record {
      ManufacturerAccess = h.ManufacturerAccess;
      RemainingCapacityAlarm = h.RemainingCapacityAlarm;
      RemainingTimeAlarm = h.RemainingTimeAlarm;
      AtRate = h.AtRate;
      AlarmMode = h.AlarmMode && not (eqb hold 0);
      ChargerMode = h.ChargerMode;
      CapacityMode = h.CapacityMode;
    }

-- the alarm timer stops counting at 10,000; the charger timer at 30,000, where its words go; while CHARGER_MODE is set it stands at 0 (RULES 7.5, 7.6)
abbrev pub timers_after : Timers → Bool → ℕ → Timers
timers_after t charger_mode elapsed =
    record {
      hold = hold_after t elapsed;
      alarm = min 10000 (t.alarm + elapsed);
      charger = cond charger_mode 0 (min 30000 (t.charger + elapsed));
    }

-- a timer restarts at 0 when its words go (RULES 8.6)
abbrev pub restarted_of : Timers → Bool → Bool → Timers
restarted_of t alarm_goes charger_goes =
    record { hold = t.hold; alarm = cond alarm_goes 0 t.alarm; charger = cond charger_goes 0 t.charger }
