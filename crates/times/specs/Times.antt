-- Document 01, Registers: the times of 05, 06 and 11 to 13, and AtRateOK, each a function of the pack without its error code.
-- Assumes nothing.
use Rattle.std.specs.Prelude.{ℕ, ◌+◌, ◌-◌, ◌*◌, Bool, cond, leb}
use Rattle.pack.specs.declared.Pack.{Pack}
use Rattle.capacity.specs.Capacity.{power_of}
use Rattle.minutes.specs.Minutes.{time_of}
use Rattle.minutes.specs.declared.Time.{Time}
use Rattle.minutes.specs.declared.Given.{Given}
use Rattle.minutes.specs.declared.Given.TheVariants.{Until, NoTime}
use Rattle.registers.specs.Registers.{average_current, remaining_capacity, full_charge_capacity}
use Rattle.words.specs.Words.{above, below, size_of}

-- 06 AtRateTimeToEmpty: AtRate below 0, on remaining (RULES 6.7)
abbrev pub at_rate_time_to_empty : Pack → Time
at_rate_time_to_empty p = time_of (below p.host.AtRate) (remaining_capacity p) (size_of p.host.AtRate)

-- full minus remaining, of the words 10 and 0F (RULES 6.5)
abbrev pub missing : Pack → ℕ
missing p = full_charge_capacity p - remaining_capacity p

-- 05 AtRateTimeToFull: AtRate above 0, on full minus remaining, mAh only (RULES 6.6)
abbrev pub at_rate_time_to_full : Pack → Given
at_rate_time_to_full p = cond p.host.CapacityMode NoTime (Until (time_of (above p.host.AtRate) (missing p) (size_of p.host.AtRate)))

-- the present discharge in mA
abbrev pub present_discharge : Pack → ℕ
present_discharge p = cond (below p.latest.current) (size_of p.latest.current) 0

-- charge covers 10 s of |AtRate| plus any present discharge; a 10 mW rate counts as 10,000 × rate ÷ design voltage mA,
-- compared without rounding: both sides times the design voltage (RULES 6.8)
abbrev pub covers : Pack → Bool
covers p =
    cond p.host.CapacityMode
    (leb (10000 * (10000 * size_of p.host.AtRate + present_discharge p * p.settings.DesignVoltage)) (p.tank.charge * p.settings.DesignVoltage))
    (leb (10000 * (size_of p.host.AtRate + present_discharge p)) p.tank.charge)

-- 07 AtRateOK: 1 if AtRate is 0 or above; below 0, 1 exactly if charge covers (RULES 6.8)
abbrev pub at_rate_ok : Pack → ℕ
at_rate_ok p = cond (below p.host.AtRate) (cond (covers p) 1 0) 1

-- a current's rate: mA; in power mode floor(|mA| × mV ÷ 10,000), with the latest voltage (RULES 6.17)
abbrev pub rate_of : Pack → ℕ → ℕ
rate_of p current = cond p.host.CapacityMode (power_of (size_of current) p.latest.voltage) (size_of current)

-- the time until empty at a current, as 06 (RULES 6.16)
abbrev pub time_to_empty_at : Pack → ℕ → Time
time_to_empty_at p current = time_of (below current) (remaining_capacity p) (rate_of p current)

-- 11 RunTimeToEmpty: from present current (RULES 6.16)
abbrev pub run_time_to_empty : Pack → Time
run_time_to_empty p = time_to_empty_at p p.latest.current

-- 12 AverageTimeToEmpty: from the mean (RULES 6.16)
abbrev pub average_time_to_empty : Pack → Time
average_time_to_empty p = time_to_empty_at p (average_current p)

-- 13 AverageTimeToFull: from the mean, on full minus remaining, as 05 (RULES 6.16)
abbrev pub average_time_to_full : Pack → Time
average_time_to_full p = time_of (above (average_current p)) (missing p) (rate_of p (average_current p))
