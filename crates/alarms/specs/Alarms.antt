-- Document 01, Registers 14 and 16: what sets each bit of BatteryStatus, ChargingCurrent, which bit 14 cuts off, and the alarms.
-- Assumes nothing.
use Rattle.std.specs.Prelude.{ℕ, Bool, false, cond, not, ◌&&◌, ◌||◌, ltb, eqb}
use Rattle.minutes.specs.Minutes.{time_word}
use Rattle.pack.specs.Discharge.{discharge_ends}
use Rattle.pack.specs.declared.Pack.{Pack}
use Rattle.registers.specs.Registers.{remaining_capacity}
use Rattle.times.specs.Times.{average_time_to_empty}
use Rattle.capacity.specs.Capacity.{milliamp_ms}
use Rattle.words.specs.Words.{above}

-- 15 OVER_CHARGED: 0 (house) (RULES 6.19)
abbrev pub over_charged : Pack → Bool
over_charged p = false

-- 5 FULLY_CHARGED: charge full (RULES 6.22)
abbrev pub charge_full : Pack → Bool
charge_full p = eqb p.tank.charge (milliamp_ms p.tank.full)

-- 12 OVER_TEMP: temperature above its limit (RULES 6.20)
abbrev pub over_temp : Pack → Bool
over_temp p = ltb p.settings.TemperatureLimit p.latest.temperature

-- 14 TERMINATE_CHARGE: current above 0 and either charge full or bit 12 set (RULES 6.19)
abbrev pub terminate_charge : Pack → Bool
terminate_charge p = above p.latest.current && (charge_full p || over_temp p)

-- 11 TERMINATE_DISCHARGE: current below 0, voltage below its limit (RULES 6.20)
abbrev pub terminate_discharge : Pack → Bool
terminate_discharge p = discharge_ends p.latest.voltage p.latest.current p.settings.DischargeLimit

-- 9 REMAINING_CAPACITY: 01 isn't 0 and 0F is below it (RULES 6.21)
abbrev pub remaining_capacity_low : Pack → Bool
remaining_capacity_low p = not (eqb p.host.RemainingCapacityAlarm 0) && ltb (remaining_capacity p) p.host.RemainingCapacityAlarm

-- 8 REMAINING_TIME: 02 isn't 0 and the word 12 is below it (RULES 6.21)
abbrev pub remaining_time_low : Pack → Bool
remaining_time_low p = not (eqb p.host.RemainingTimeAlarm 0) && ltb (time_word (average_time_to_empty p)) p.host.RemainingTimeAlarm

-- 6 DISCHARGING: current not above 0 (RULES 6.22)
abbrev pub discharging : Pack → Bool
discharging p = not (above p.latest.current)

-- 14 ChargingCurrent: the setting, 0 while TERMINATE_CHARGE_ALARM is set (RULES 6.18)
abbrev pub charging_current : Pack → ℕ
charging_current p = cond (terminate_charge p) 0 p.settings.ChargingCurrent

-- any of bits 15, 14, 12 is set: alarms that the charger hears too (RULES 8.3)
abbrev pub charger_alarm : Pack → Bool
charger_alarm p = over_charged p || terminate_charge p || over_temp p

-- any of bits 15, 14, 12, 11, 9, 8 is set (RULES 8.2)
abbrev pub any_alarm : Pack → Bool
any_alarm p = charger_alarm p || terminate_discharge p || remaining_capacity_low p || remaining_time_low p
