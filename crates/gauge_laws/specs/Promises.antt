-- Document 01, Registers, and 002: what holds of the words, the theorems that `proofs/` proves.
-- Assumes nothing.
use Rattle.std.specs.Prelude.{ℕ, ◌/◌, ◌%◌, ◌^◌, ◌≤◌, ◌<◌, Bool, true, cond, ◌≡◌}
use Rattle.alarms.specs.Alarms.{charge_full, over_temp, over_charged, terminate_charge, terminate_discharge, remaining_capacity_low, remaining_time_low, discharging}
use Rattle.status.specs.Status.{battery_status}
use Rattle.gauge.specs.Word.{word_of}
use Rattle.pack.specs.Fits.{PackFits}
use Rattle.start.specs.SetUp.{set_up_of}
use Rattle.pack.specs.Sound.{sound_of}
use Rattle.pack.specs.declared.Pack.{Pack}
use Rattle.pack.specs.declared.Sample.{Sample}
use Rattle.start.specs.declared.Setup.{Setup}
use Rattle.pack.specs.declared.State.{State}

-- bit k of a word
abbrev pub bit_of : ℕ → ℕ → ℕ
bit_of k w = w / 2 ^ k % 2

-- a flag as a bit
abbrev pub digit : Bool → ℕ
digit on = cond on 1 0

-- 002, 5.1.21: the places of the flags and of the error code; reserved bits are 0
pub record BitsStand (p : Pack) (code w : ℕ) : Type 0 where
  pub OVER_CHARGED : bit_of 15 w ≡ digit (over_charged p)
  pub TERMINATE_CHARGE : bit_of 14 w ≡ digit (terminate_charge p)
  pub reserved13 : bit_of 13 w ≡ 0
  pub OVER_TEMP : bit_of 12 w ≡ digit (over_temp p)
  pub TERMINATE_DISCHARGE : bit_of 11 w ≡ digit (terminate_discharge p)
  pub reserved10 : bit_of 10 w ≡ 0
  pub REMAINING_CAPACITY : bit_of 9 w ≡ digit (remaining_capacity_low p)
  pub REMAINING_TIME : bit_of 8 w ≡ digit (remaining_time_low p)
  pub INITIALIZED : bit_of 7 w ≡ 1
  pub DISCHARGING : bit_of 6 w ≡ digit (discharging p)
  pub FULLY_CHARGED : bit_of 5 w ≡ digit (charge_full p)
  pub FULLY_DISCHARGED : bit_of 4 w ≡ digit p.tank.FullyDischarged
  pub error_code : w % 16 ≡ code

-- 1. each bit of 16 is the flag that document 01 names for it
abbrev pub EachBit : Type 0
EachBit = (p : Pack) (code : ℕ) → code < 16 → BitsStand p code (battery_status p code)

-- 2. 14 is 0 while bit 14 of 16 is set
abbrev pub ChargingCurrentOff : Type 0
ChargingCurrentOff = (s : State) → s.error < 16 → bit_of 14 (word_of s 0x16) ≡ 1 → word_of s 0x14 ≡ 0

-- 002, 4.4.1: the words of a pack at first
pub record Initially (s : State) : Type 0 where
  pub RemainingCapacityAlarm : word_of s 0x01 ≡ word_of s 0x18 / 10
  pub RemainingTimeAlarm : word_of s 0x02 ≡ 10
  pub BatteryMode : word_of s 0x03 ≡ 0
  pub INITIALIZED : bit_of 7 (word_of s 0x16) ≡ 1

-- 3. a served set-up gives them
abbrev pub InitialWords : Type 0
InitialWords = (u : Setup) (first : Sample) → (set_up_of u first).answer ≡ 0 → Initially (set_up_of u first).state

-- and INITIALIZED is always 1
abbrev pub AlwaysInitialized : Type 0
AlwaysInitialized = (s : State) → s.error < 16 → bit_of 7 (word_of s 0x16) ≡ 1

-- 4. every word of a sound state is below 65,536
abbrev pub WordsBelow : Type 0
WordsBelow = (s : State) (command : ℕ) → sound_of s ≡ true → PackFits s.pack → word_of s command < 65536

-- 5. 0F is never above 10
abbrev pub RemainingAtMostFull : Type 0
RemainingAtMostFull = (s : State) → sound_of s ≡ true → word_of s 0x0F ≤ word_of s 0x10
