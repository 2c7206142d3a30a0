-- Document 01, Registers: the words of modes, average, capacities and percents, each a function of the pack without its error code.
-- Assumes nothing.
use Rattle.std.specs.Prelude.{ℕ, ◌+◌, ◌/◌, ◌^◌, Bool, cond}
use Rattle.pack.specs.declared.Host.{Host}
use Rattle.pack.specs.declared.Pack.{Pack}
use Rattle.recent.specs.Recent.{average_of}
use Rattle.capacity.specs.Capacity.{power_of, energy_of, capped_word, percent_of}

-- what bit k adds to a word
abbrev pub bit : ℕ → Bool → ℕ
bit k on = cond on (2 ^ k) 0

-- 03 BatteryMode: bits 13 ALARM_MODE, 14 CHARGER_MODE, 15 CAPACITY_MODE; others read 0 (RULES 6.3)
abbrev pub battery_mode : Host → ℕ
battery_mode h = bit 13 h.AlarmMode + bit 14 h.ChargerMode + bit 15 h.CapacityMode

-- 0B AverageCurrent (RULES 6.10)
abbrev pub average_current : Pack → ℕ
average_current p = average_of p.recent p.latest.current

-- a capacity as 10 and 18 show it: whole mAh; in power mode 10 mWh, capped at 65,535 (RULES 6.14, 6.15)
abbrev pub capacity_of : Pack → ℕ → ℕ
capacity_of p capacity = cond p.host.CapacityMode (capped_word (power_of capacity p.settings.DesignVoltage)) capacity

-- 0F RemainingCapacity: whole mAh; in power mode 10 mWh, capped at 65,535 (RULES 6.14, 6.15)
unfoldable pub remaining_capacity : Pack → ℕ
remaining_capacity p =
    cond p.host.CapacityMode (capped_word (energy_of p.tank.charge p.settings.DesignVoltage)) (p.tank.charge / 3600000)

-- 10 FullChargeCapacity (RULES 6.14, 6.15)
unfoldable pub full_charge_capacity : Pack → ℕ
full_charge_capacity p = capacity_of p p.tank.full

-- 18 DesignCapacity (RULES 6.14, 6.15)
unfoldable pub design_capacity : Pack → ℕ
design_capacity p = capacity_of p p.settings.DesignCapacity

-- 0D RelativeStateOfCharge: floor(100 × charge ÷ full) (RULES 6.12)
abbrev pub relative_state_of_charge : Pack → ℕ
relative_state_of_charge p = percent_of p.tank.charge p.tank.full

-- 0E AbsoluteStateOfCharge: against design, capped at 65,535 (RULES 6.13)
abbrev pub absolute_state_of_charge : Pack → ℕ
absolute_state_of_charge p = capped_word (percent_of p.tank.charge p.settings.DesignCapacity)
