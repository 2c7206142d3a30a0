-- Request R-10: BatteryStatus bit by bit, where source document 001 puts them.
-- Assumes nothing.
use Rattle.std.specs.Prelude.{ℕ, ◌+◌, ◌*◌, Bool, true, ◌&&◌, ◌||◌, ◌≡◌, ltb, leb}
use Rattle.pack.specs.declared.Latest.{Latest}
use Rattle.registers.specs.Registers.{bit}
use Rattle.thirteen_pack.specs.declared.Thirteen.{Thirteen}
use Rattle.words.specs.Words.{above, below, size_of}

-- ---- temperatures in hundredths of a kelvin, in which 0 °C is 273.15 K exactly

-- of a temperature in 0.1 K
abbrev pub hundredths : ℕ → ℕ
hundredths tenths = 10 * tenths

-- of one in °C
abbrev pub celsius : ℕ → ℕ
celsius degrees = 27315 + 100 * degrees

-- promised: so many °C lie between two steps of 0.1 K, so that at least and at most are exact there
abbrev pub AtLeastTenths : Type 0
AtLeastTenths = (degrees tenths : ℕ) → leb (celsius degrees) (hundredths tenths) ≡ leb (2732 + 10 * degrees) tenths

abbrev pub AtMostTenths : Type 0
AtMostTenths = (degrees tenths : ℕ) → leb (hundredths tenths) (celsius degrees) ≡ leb tenths (2731 + 10 * degrees)

-- ---- what sets each bit, by the latest sample

-- at least 50 °C while it charges, at least 60 °C while it discharges
abbrev pub is_hot : Bool → Bool → ℕ → Bool
is_hot rises falls temperature = rises && leb (celsius 50) (hundredths temperature) || falls && leb (celsius 60) (hundredths temperature)

-- 13 OVER_TEMPERATURE: at least 50 °C while current is above 0, at least 60 °C while it is below 0 (RULES 15.9)
abbrev pub over_temperature : Latest → Bool
over_temperature x = is_hot (above x.current) (below x.current) x.temperature

-- 12 UNDER_TEMPERATURE: at most 0 °C (RULES 15.9)
abbrev pub under_temperature : Latest → Bool
under_temperature x = leb (hundredths x.temperature) (celsius 0)

-- 11 DISCHARGE_OVER_CURRENT: current at most −15,000 (RULES 15.9)
abbrev pub discharge_over_current : Latest → Bool
discharge_over_current x = below x.current && leb 15000 (size_of x.current)

-- 10 CHARGE_OVER_CURRENT: current at least 2,000 (RULES 15.9)
abbrev pub charge_over_current : Latest → Bool
charge_over_current x = above x.current && leb 2000 (size_of x.current)

-- 9 OVER_VOLTAGE: voltage at least 54,800 (RULES 15.10)
abbrev pub over_voltage : Latest → Bool
over_voltage x = leb 54800 x.voltage

-- 8 UNDER_VOLTAGE: voltage at most 39,000 (RULES 15.10)
abbrev pub under_voltage : Latest → Bool
under_voltage x = leb x.voltage 39000

-- 5 FULLY_CHARGED: current 1 to 99 and voltage above 51,000 (RULES 15.10)
abbrev pub fully_charged : Latest → Bool
fully_charged x = above x.current && leb (size_of x.current) 99 && ltb 51000 x.voltage

-- ---- the word

-- 16 BatteryStatus, high to low; 7 INITIALIZED is 1, 6 DISCHARGING is a current below 0, 4 FULLY_DISCHARGED is kept; 15, 14 and 3 to 0 are 0 (RULES 15.9, 15.10)
unfoldable pub status_of : Thirteen → ℕ
status_of p =
    bit 13 (over_temperature p.latest) + bit 12 (under_temperature p.latest)
    + bit 11 (discharge_over_current p.latest) + bit 10 (charge_over_current p.latest)
    + bit 9 (over_voltage p.latest) + bit 8 (under_voltage p.latest)
    + bit 7 true + bit 6 (below p.latest.current) + bit 5 (fully_charged p.latest) + bit 4 p.level.FullyDischarged
