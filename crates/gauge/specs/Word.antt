-- Document 01, Registers: each read-word command 00 to 1C, its word and its answer.
-- Assumes nothing.
use Rattle.std.specs.Prelude.{ℕ, cond, eqb}
use Rattle.minutes.specs.Minutes.{given_word, given_answer, given_shown}
use Rattle.minutes.specs.declared.Given.{Given}
use Rattle.minutes.specs.declared.Given.TheVariants.{Word, Until}
use Rattle.registers.specs.Registers.{battery_mode, average_current, remaining_capacity, full_charge_capacity, design_capacity, relative_state_of_charge, absolute_state_of_charge}
use Rattle.times.specs.Times.{at_rate_time_to_empty, at_rate_time_to_full, at_rate_ok, run_time_to_empty, average_time_to_empty, average_time_to_full}
use Rattle.alarms.specs.Alarms.{charging_current}
use Rattle.status.specs.Status.{battery_status}
use Rattle.minutes.specs.declared.Shown.{Shown}
use Rattle.pack.specs.declared.State.{State}

-- what a command's register gives; the word 0 for a command that has none (RULES 6.1 to 6.26)
unfoldable pub given_of : State → ℕ → Given
given_of s command =
    cond (eqb command 0x00) (Word s.pack.host.ManufacturerAccess)
    (cond (eqb command 0x01) (Word s.pack.host.RemainingCapacityAlarm)
    (cond (eqb command 0x02) (Word s.pack.host.RemainingTimeAlarm)
    (cond (eqb command 0x03) (Word (battery_mode s.pack.host))
    (cond (eqb command 0x04) (Word s.pack.host.AtRate)
    (cond (eqb command 0x05) (at_rate_time_to_full s.pack)
    (cond (eqb command 0x06) (Until (at_rate_time_to_empty s.pack))
    (cond (eqb command 0x07) (Word (at_rate_ok s.pack))
    (cond (eqb command 0x08) (Word s.pack.latest.temperature)
    (cond (eqb command 0x09) (Word s.pack.latest.voltage)
    (cond (eqb command 0x0A) (Word s.pack.latest.current)
    (cond (eqb command 0x0B) (Word (average_current s.pack))
    (cond (eqb command 0x0C) (Word s.pack.settings.MaxError)
    (cond (eqb command 0x0D) (Word (relative_state_of_charge s.pack))
    (cond (eqb command 0x0E) (Word (absolute_state_of_charge s.pack))
    (cond (eqb command 0x0F) (Word (remaining_capacity s.pack))
    (cond (eqb command 0x10) (Word (full_charge_capacity s.pack))
    (cond (eqb command 0x11) (Until (run_time_to_empty s.pack))
    (cond (eqb command 0x12) (Until (average_time_to_empty s.pack))
    (cond (eqb command 0x13) (Until (average_time_to_full s.pack))
    (cond (eqb command 0x14) (Word (charging_current s.pack))
    (cond (eqb command 0x15) (Word s.pack.settings.ChargingVoltage)
    (cond (eqb command 0x16) (Word (battery_status s.pack s.error))
    (cond (eqb command 0x17) (Word s.pack.tank.CycleCount)
    (cond (eqb command 0x18) (Word (design_capacity s.pack))
    (cond (eqb command 0x19) (Word s.pack.settings.DesignVoltage)
    (cond (eqb command 0x1A) (Word 0x0031)
    (cond (eqb command 0x1B) (Word s.pack.settings.ManufactureDate)
    (cond (eqb command 0x1C) (Word s.pack.settings.SerialNumber)
    (Word 0)))))))))))))))))))))))))))))

-- its word
abbrev pub word_of : State → ℕ → ℕ
word_of s command = given_word (given_of s command)

-- the answer of a read of it (RULES 1.10)
abbrev pub word_answer : State → ℕ → ℕ
word_answer s command = given_answer (given_of s command)

-- the answer and the word
abbrev pub shown_of : State → ℕ → Shown
shown_of s command = given_shown (given_of s command)
