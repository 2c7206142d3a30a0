-- The words as they were before requests R-6 and R-8, kept to say that they are the same. Nothing else stands on these.
-- Assumes nothing.
use Rattle.std.specs.Prelude.{ℕ, ◌*◌, ◌/◌, min, Bool, true, false, cond, not, ◌&&◌, eqb, leb, ltb}
use Rattle.alarms.specs.Alarms.{charging_current}
use Rattle.capacity.specs.Capacity.{percent_of}
use Rattle.pack.specs.declared.Pack.{Pack}
use Rattle.pack.specs.declared.State.{State}
use Rattle.registers.specs.Registers.{battery_mode, average_current, remaining_capacity, full_charge_capacity, design_capacity, absolute_state_of_charge}
use Rattle.status.specs.Status.{battery_status}
use Rattle.times.specs.Times.{missing, at_rate_ok, rate_of}
use Rattle.words.specs.Words.{above, below, size_of}

-- capacity by rate was a word: floor(60 × capacity ÷ rate), capped at 65,534; a rate that rounds to 0 gave 65,534
abbrev pub minutes_of : ℕ → ℕ → ℕ
minutes_of capacity rate = cond (eqb rate 0) 65534 (min 65534 (60 * capacity / rate))

-- if the rate flowed the command's way, else 65,535
abbrev pub minutes_if : Bool → ℕ → ℕ → ℕ
minutes_if flows capacity rate = cond flows (minutes_of capacity rate) 65535

-- 05
abbrev pub at_rate_time_to_full_word : Pack → ℕ
at_rate_time_to_full_word p = cond p.host.CapacityMode 65535 (minutes_if (above p.host.AtRate) (missing p) (size_of p.host.AtRate))

-- 06
abbrev pub at_rate_time_to_empty_word : Pack → ℕ
at_rate_time_to_empty_word p = minutes_if (below p.host.AtRate) (remaining_capacity p) (size_of p.host.AtRate)

-- 11 and 12
abbrev pub time_to_empty_word_at : Pack → ℕ → ℕ
time_to_empty_word_at p current = minutes_if (below current) (remaining_capacity p) (rate_of p current)

-- 13
abbrev pub average_time_to_full_word : Pack → ℕ
average_time_to_full_word p = minutes_if (above (average_current p)) (missing p) (rate_of p (average_current p))

-- bit 8 of 16
abbrev pub time_word_low : Pack → Bool
time_word_low p = not (eqb p.host.RemainingTimeAlarm 0) && ltb (time_to_empty_word_at p (average_current p)) p.host.RemainingTimeAlarm

-- 0D had a cap (R-8): the smaller of 100 and floor(100 × charge ÷ full)
abbrev pub relative_before : ℕ → ℕ → ℕ
relative_before charge full = min 100 (percent_of charge full)

-- bit 4 of 16 by it: set at charge 0, cleared at 0D of 20 or more, else kept
abbrev pub fully_discharged_before : Bool → ℕ → ℕ → Bool
fully_discharged_before before charge full = cond (eqb charge 0) true (cond (leb 20 (relative_before charge full)) false before)

-- every word; of 16 no bit but 8 stands on a time, and bit 4 is kept
unfoldable pub word_before : State → ℕ → ℕ
word_before s command =
    cond (eqb command 0x00) s.pack.host.ManufacturerAccess
    (cond (eqb command 0x01) s.pack.host.RemainingCapacityAlarm
    (cond (eqb command 0x02) s.pack.host.RemainingTimeAlarm
    (cond (eqb command 0x03) (battery_mode s.pack.host)
    (cond (eqb command 0x04) s.pack.host.AtRate
    (cond (eqb command 0x05) (at_rate_time_to_full_word s.pack)
    (cond (eqb command 0x06) (at_rate_time_to_empty_word s.pack)
    (cond (eqb command 0x07) (at_rate_ok s.pack)
    (cond (eqb command 0x08) s.pack.latest.temperature
    (cond (eqb command 0x09) s.pack.latest.voltage
    (cond (eqb command 0x0A) s.pack.latest.current
    (cond (eqb command 0x0B) (average_current s.pack)
    (cond (eqb command 0x0C) s.pack.settings.MaxError
    (cond (eqb command 0x0D) (relative_before s.pack.tank.charge s.pack.tank.full)
    (cond (eqb command 0x0E) (absolute_state_of_charge s.pack)
    (cond (eqb command 0x0F) (remaining_capacity s.pack)
    (cond (eqb command 0x10) (full_charge_capacity s.pack)
    (cond (eqb command 0x11) (time_to_empty_word_at s.pack s.pack.latest.current)
    (cond (eqb command 0x12) (time_to_empty_word_at s.pack (average_current s.pack))
    (cond (eqb command 0x13) (average_time_to_full_word s.pack)
    (cond (eqb command 0x14) (charging_current s.pack)
    (cond (eqb command 0x15) s.pack.settings.ChargingVoltage
    (cond (eqb command 0x16) (battery_status s.pack s.error)
    (cond (eqb command 0x17) s.pack.tank.CycleCount
    (cond (eqb command 0x18) (design_capacity s.pack)
    (cond (eqb command 0x19) s.pack.settings.DesignVoltage
    (cond (eqb command 0x1A) 0x0031
    (cond (eqb command 0x1B) s.pack.settings.ManufactureDate
    (cond (eqb command 0x1C) s.pack.settings.SerialNumber
    0))))))))))))))))))))))))))))
