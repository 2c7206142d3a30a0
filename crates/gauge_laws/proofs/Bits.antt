-- Each bit of BatteryStatus at its place.
-- Assumes nothing.
use Prim.Native.Nat.{ℕ, ◌+◌, ◌*◌, ◌/◌, ◌^◌, ◌≤◌, ◌<◌}
use mathlib.Core.Bool.{Bool, true, false}
use mathlib.Core.Path.{◌≡◌, refl}
use native.Mathlib.Omega.{arith}
use Rattle.alarms.specs.Alarms.{charge_full, over_temp, terminate_charge, terminate_discharge, remaining_capacity_low, remaining_time_low, discharging}
use Rattle.status.specs.Status.{status_bits, battery_status}
use Rattle.gauge_laws.specs.Promises.{digit, EachBit}
use Rattle.pack.specs.declared.Pack.{Pack}
use Rattle.registers.specs.Registers.{bit}

pub digit_most : (on : Bool) → digit on ≤ 1
digit_most true = omega arith
digit_most false = omega arith

-- a digit of 1 is of a flag that is set
pub digit_set : (on : Bool) → digit on ≡ 1 → on ≡ true
digit_set true h = refl
digit_set false h = absurd (omega (arith, h))

pub weighed : (k : ℕ) (on : Bool) → bit k on ≡ 2 ^ k * digit on
weighed k true = omega arith
weighed k false = omega arith

-- the status word as digits by weight, each at most 1
record Digits (p : Pack) : Type 0 where
  is : status_bits p ≡
      16384 * digit (terminate_charge p) + 4096 * digit (over_temp p) + 2048 * digit (terminate_discharge p)
      + 512 * digit (remaining_capacity_low p) + 256 * digit (remaining_time_low p)
      + 128 + 64 * digit (discharging p) + 32 * digit (charge_full p) + 16 * digit p.tank.FullyDischarged
  d14 : digit (terminate_charge p) ≤ 1
  d12 : digit (over_temp p) ≤ 1
  d11 : digit (terminate_discharge p) ≤ 1
  d9 : digit (remaining_capacity_low p) ≤ 1
  d8 : digit (remaining_time_low p) ≤ 1
  d6 : digit (discharging p) ≤ 1
  d5 : digit (charge_full p) ≤ 1
  d4 : digit p.tank.FullyDischarged ≤ 1

digits : (p : Pack) → Digits p
unfolding status_bits
digits p =
    record {
      is = simp weighed (omega arith);
      d14 = digit_most (terminate_charge p);
      d12 = digit_most (over_temp p);
      d11 = digit_most (terminate_discharge p);
      d9 = digit_most (remaining_capacity_low p);
      d8 = digit_most (remaining_time_low p);
      d6 = digit_most (discharging p);
      d5 = digit_most (charge_full p);
      d4 = digit_most p.tank.FullyDischarged;
    }

-- all bits above the error code set but 15, 13 and 10
pub status_most : (p : Pack) → status_bits p ≤ 23536
status_most p = let d = digits p in omega arith

-- the error code changes nothing above it
pub above_code : (p : Pack) (code : ℕ) → code < 16 → battery_status p code / 16 ≡ status_bits p / 16
above_code p code h = let d = digits p in omega arith

-- each bit of 16 is the flag that document 01 names for it
pub bits_stand : EachBit
bits_stand p code h = let d = digits p in search arith
