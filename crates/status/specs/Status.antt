-- Document 01, Register 16: BatteryStatus bit by bit, and the word of an alarm.
-- Assumes nothing.
use Rattle.std.specs.Prelude.{ℕ, ◌+◌, true}
use Rattle.pack.specs.declared.Pack.{Pack}
use Rattle.registers.specs.Registers.{bit}
use Rattle.alarms.specs.Alarms.{over_charged, charge_full, over_temp, terminate_charge, terminate_discharge, remaining_capacity_low, remaining_time_low, discharging}

-- 16 BatteryStatus above its error code, high to low; 7 INITIALIZED is 1, 4 FULLY_DISCHARGED is kept, 13 and 10 are reserved (RULES 6.19 to 6.23)
unfoldable pub status_bits : Pack → ℕ
status_bits p =
    bit 15 (over_charged p) + bit 14 (terminate_charge p) + bit 12 (over_temp p) + bit 11 (terminate_discharge p)
    + bit 9 (remaining_capacity_low p) + bit 8 (remaining_time_low p)
    + bit 7 true + bit 6 (discharging p) + bit 5 (charge_full p) + bit 4 p.tank.FullyDischarged

-- 16 BatteryStatus: the error code in its low four bits (RULES 6.22)
abbrev pub battery_status : Pack → ℕ → ℕ
battery_status p code = status_bits p + code

-- an alarm's word is 16's with its low four bits set (RULES 8.4)
abbrev pub alarm_word : Pack → ℕ
alarm_word p = battery_status p 15
