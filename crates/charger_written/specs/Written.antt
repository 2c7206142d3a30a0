-- Request R-7: what a served write leaves of the charger.
-- Assumes nothing.
use Rattle.std.specs.Prelude.{ℕ, Bool, true, false, cond, ◌||◌, eqb}
use Rattle.charger_state.specs.Charger.{power_on}
use Rattle.charger_state.specs.declared.Asked.{Asked}
use Rattle.charger_state.specs.declared.Charger.{Charger}
use Rattle.written.specs.Written.{bit_set}

-- a request that was taken, and is awaited no longer (RULES 14.8, 14.9)
abbrev pub taken_as : ℕ → Asked
taken_as word = record { taken = true; word = word; awaited = false }

-- a request with its word at 0 where told, else as it was (RULES 14.7)
abbrev pub zeroed_if : Bool → Asked → Asked
zeroed_if zero a = record { taken = a.taken; word = cond zero 0 a.word; awaited = a.awaited }

-- a request that must come again where told, else as it was (RULES 14.9)
abbrev pub awaited_if : Bool → Asked → Asked
awaited_if again a = record { taken = a.taken; word = a.word; awaited = a.awaited || again }

-- 12 ChargerMode. Bit 2 POR_RESET: the power-on state, the count going on, the other bits without effect. Else bit 0 INHIBIT_CHARGE as written,
-- and bit 3 RESET_TO_ZERO: both requests 0; others without effect (RULES 14.7)
unfoldable pub mode_written : Charger → ℕ → Charger
mode_written s word =
    cond (bit_set 2 word) (power_on s.count s.latest)
    (record {
      ChargingCurrent = zeroed_if (bit_set 3 word) s.ChargingCurrent;
      ChargingVoltage = zeroed_if (bit_set 3 word) s.ChargingVoltage;
      inhibited = bit_set 0 word;
      count = s.count;
      latest = s.latest;
    })

-- 14 ChargingCurrent: the request is taken, and the count set to 0 (RULES 14.8)
abbrev pub current_written : Charger → ℕ → Charger
current_written s word =
    record { ChargingCurrent = taken_as word; ChargingVoltage = s.ChargingVoltage; inhibited = s.inhibited; count = 0; latest = s.latest }

-- 15 ChargingVoltage: the request is taken, and the count set to 0 (RULES 14.8)
abbrev pub voltage_written : Charger → ℕ → Charger
voltage_written s word =
    record { ChargingCurrent = s.ChargingCurrent; ChargingVoltage = taken_as word; inhibited = s.inhibited; count = 0; latest = s.latest }

-- any of bits 15, 14, 13 and 12 (RULES 14.9)
abbrev pub ends_charge : ℕ → Bool
ends_charge word = bit_set 15 word || bit_set 14 word || bit_set 13 word || bit_set 12 word

-- 16 AlarmWarning: with one of these set both requests must come again; with none it does nothing (RULES 14.9)
abbrev pub alarm_written : Charger → ℕ → Charger
alarm_written s word =
    record {
      ChargingCurrent = awaited_if (ends_charge word) s.ChargingCurrent;
      ChargingVoltage = awaited_if (ends_charge word) s.ChargingVoltage;
      inhibited = s.inhibited;
      count = s.count;
      latest = s.latest;
    }

-- the state after a served write (RULES 14.7 to 14.9)
unfoldable pub charger_written : Charger → ℕ → ℕ → Charger
charger_written s command word =
    cond (eqb command 0x12) (mode_written s word)
    (cond (eqb command 0x14) (current_written s word)
    (cond (eqb command 0x15) (voltage_written s word)
    (cond (eqb command 0x16) (alarm_written s word)
    s)))
