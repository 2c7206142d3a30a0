-- Request R-7: the charger's state, its current, its status and its samples.
-- Assumes nothing.
use Rattle.std.specs.Prelude.{ℕ, ◌+◌, min, Bool, true, false, cond, not, ◌&&◌, ◌||◌, ltb, leb, eqb}
use Rattle.charger_state.specs.declared.Asked.{Asked}
use Rattle.charger_state.specs.declared.Charger.{Charger}
use Rattle.pack.specs.declared.Answered.{Answered}
use Rattle.clock.specs.Sample.{elapsed_of}
use Rattle.pack.specs.Kept.{latest_of}
use Rattle.pack.specs.declared.Latest.{Latest}
use Rattle.pack.specs.declared.Sample.{Sample}
use Rattle.registers.specs.Registers.{bit}
use Rattle.words.specs.Words.{below}

-- ---- the state

-- no request taken yet, and none awaited (RULES 14.4)
abbrev pub not_yet : Asked
not_yet = record { taken = false; word = 0; awaited = false }

-- the power-on state: no request taken, nothing inhibited (RULES 14.4)
abbrev pub power_on : ℕ → Latest → Charger
power_on count latest = record { ChargingCurrent = not_yet; ChargingVoltage = not_yet; inhibited = false; count = count; latest = latest }

-- set-up takes a first sample and begins the count at 0 (RULES 14.3)
abbrev pub set_up_of : Sample → Charger
set_up_of first = power_on 0 (latest_of first)

-- sound exactly when the count is at most 175,000 (RULES 14.2)
abbrev pub sound_of : Charger → Bool
sound_of s = leb s.count 175000

-- ALARM_INHIBITED: of the two requests one was not written since the latest alarm (RULES 14.9)
abbrev pub alarm_inhibited : Charger → Bool
alarm_inhibited s = s.ChargingCurrent.awaited || s.ChargingVoltage.awaited

-- ---- its current

-- a request other than 0 was taken
abbrev pub asks_for : Asked → Bool
asks_for a = a.taken && not (eqb a.word 0)

-- silence: the count has reached 175,000 (RULES 14.11)
abbrev pub silent : Charger → Bool
silent s = leb 175000 s.count

-- it gives none before any ChargingCurrent, while inhibited, alarm-inhibited, with a ChargingVoltage of 0 or none yet, or in silence (RULES 14.10)
abbrev pub stopped : Charger → Bool
stopped s = not s.ChargingCurrent.taken || s.inhibited || alarm_inhibited s || not (asks_for s.ChargingVoltage) || silent s

-- its current: else the last ChargingCurrent taken (RULES 14.10)
unfoldable pub current_of : Charger → ℕ
current_of s = cond (stopped s) 0 s.ChargingCurrent.word

-- ---- its words

-- the requested ChargingVoltage isn't met by the latest sample's voltage; 0 while none was taken (RULES 14.6)
abbrev pub voltage_not_met : Charger → Bool
voltage_not_met s = s.ChargingVoltage.taken && ltb s.latest.voltage s.ChargingVoltage.word

-- the requested ChargingCurrent isn't met by the latest sample's signed current: one below 0 is below every request (RULES 14.6)
abbrev pub current_not_met : Charger → Bool
current_not_met s = s.ChargingCurrent.taken && (below s.latest.current || ltb s.latest.current s.ChargingCurrent.word)

-- 13 ChargerStatus, high to low: 15 AC_PRESENT, 14 BATTERY_PRESENT, 13 POWER_FAIL, 12 ALARM_INHIBITED, 11 to 8 the safety signal, 7 VOLTAGE_OR, 6 CURRENT_OR,
-- 5 and 4 Level 2, 3 CURRENT_NOTREG, 2 VOLTAGE_NOTREG, 1 POLLING_ENABLED, 0 CHARGE_INHIBITED (RULES 14.6)
unfoldable pub status_of : Charger → ℕ
status_of s =
    bit 15 true + bit 14 true + bit 13 false + bit 12 (alarm_inhibited s)
    + bit 11 false + bit 10 false + bit 9 false + bit 8 false + bit 7 false + bit 6 false
    + bit 5 false + bit 4 true + bit 3 (current_not_met s) + bit 2 (voltage_not_met s) + bit 1 false + bit 0 s.inhibited

-- 11 ChargerSpecInfo: 0x0003, version 1.1 with PEC; 13 ChargerStatus (RULES 14.5, 14.6)
abbrev pub word_of : Charger → ℕ → ℕ
word_of s command = cond (eqb command 0x11) 0x0003 (status_of s)

-- ---- its samples

-- the count goes on by what elapsed and stops at 175,000; the sample becomes the latest (RULES 14.11)
unfoldable pub sampled_of : Charger → Sample → Charger
sampled_of s x =
    record {
      ChargingCurrent = s.ChargingCurrent;
      ChargingVoltage = s.ChargingVoltage;
      inhibited = s.inhibited;
      count = min 175000 (s.count + elapsed_of x.counter s.latest.counter);
      latest = latest_of x;
    }

-- 1: state isn't sound, and nothing changes; else 0 (RULES 1.1, 2.3)
unfoldable pub sample_of : Charger → Sample → Answered Charger
sample_of s x = cond (not (sound_of s)) (record { answer = 1; state = s }) (record { answer = 0; state = sampled_of s x })
