-- Request R-10: since set-up charge, bit 4, the minute and so 0D, 11 and 13 are document 01's, as the first pack has them where it closes no run.
-- Assumes nothing.
use Rattle.std.specs.Prelude.{ℕ, false, List, ◌∷◌, ◌≡◌, pos}
use Rattle.std.specs.Int.{w16}
use Rattle.std.proofs.Common.{to_z}
use Rattle.capacity.specs.Capacity.{milliamp_ms}
use Rattle.gauge.specs.Word as gauge
use Rattle.pack.specs.declared.Sample.{Sample}
use Rattle.pack.specs.declared.Settings.{Settings}
use Rattle.pack.specs.declared.State.{State}
use Rattle.recent_laws.specs.Minute.{average_of_all}
use Rattle.runs.specs.Since.{Measures, measures_of, measures_after, milliseconds, latest_current, Signed16, charge_over}
use Rattle.start.specs.SetUp as start
use Rattle.start.specs.declared.Setup.{Setup}
use Rattle.thirteen_laws.specs.Events.{Event, run, samples_of}
use Rattle.thirteen_pack.specs.SetUp.{set_up_of}
use Rattle.thirteen_pack.specs.declared.Thirteen.{Thirteen}
use Rattle.thirteen_pack.specs.declared.ThirteenState.{ThirteenState}
use Rattle.thirteen_words.specs.Word.{average_current, given_of}

-- a thirteen-cell pack measures what a pack does
pub record AsOne (p : Thirteen) (m : Measures) : Type 0 where
  pub latest : p.latest ≡ m.latest
  pub recent : p.recent ≡ m.recent
  pub charge : p.level.charge ≡ m.tank.charge
  pub full : p.level.full ≡ m.tank.full
  pub FullyDischarged : p.level.FullyDischarged ≡ m.tank.FullyDischarged

-- set-up's state
abbrev pub from_set_up : Setup → ℕ → Sample → List ℕ → ThirteenState
from_set_up u health first cells = (set_up_of u health first cells).state

-- no voltage is below a DischargeLimit of 0, so that no run closes and full stays
abbrev pub unlimited : Settings → Settings
unlimited s =
    record {
      DesignCapacity = s.DesignCapacity;
      DesignVoltage = s.DesignVoltage;
      MaxError = s.MaxError;
      ManufactureDate = s.ManufactureDate;
      SerialNumber = s.SerialNumber;
      ChargingCurrent = s.ChargingCurrent;
      ChargingVoltage = s.ChargingVoltage;
      TemperatureLimit = s.TemperatureLimit;
      DischargeLimit = 0;
      plain = s.plain;
    }

-- 1. after set-up and any events it measures what a pack of that set-up, with no limit, measures after the same samples
abbrev pub AsThePack : Type 0
AsThePack =
    (u : Setup) (health : ℕ) (first : Sample) (cells : List ℕ) (es : List Event) → (set_up_of u health first cells).answer ≡ 0
    → AsOne (run (from_set_up u health first cells) es).pack
    (measures_after (unlimited (start.settings_of u)) (measures_of (start.pack_of u first)) (samples_of es))

-- 2. where a pack in mAh measures the same, the registers 08, 0D, 11 and 13 give the same, word and answer
abbrev pub WordsAsOne : Type 0
WordsAsOne =
    (p : Thirteen) (s : State) → AsOne p (measures_of s.pack) → s.pack.host.CapacityMode ≡ false
    → (given_of p 0x08 ≡ gauge.given_of s 0x08) × (given_of p 0x0D ≡ gauge.given_of s 0x0D)
    × (given_of p 0x11 ≡ gauge.given_of s 0x11) × (given_of p 0x13 ≡ gauge.given_of s 0x13)

-- 3. charge is set-up's remaining capacity and, over all samples since, current × elapsed added and held between 0 and full
abbrev pub ChargeSinceSetUp : Type 0
ChargeSinceSetUp =
    (u : Setup) (health : ℕ) (first : Sample) (cells : List ℕ) (es : List Event) → (set_up_of u health first cells).answer ≡ 0 → Signed16 (samples_of es)
    → pos (run (from_set_up u health first cells) es).pack.level.charge
    ≡ charge_over u.full (pos (milliamp_ms u.remaining)) first.counter (samples_of es)

-- full is set-up's
abbrev pub FullStays : Type 0
FullStays =
    (u : Setup) (health : ℕ) (first : Sample) (cells : List ℕ) (es : List Event) → (set_up_of u health first cells).answer ≡ 0
    → (run (from_set_up u health first cells) es).pack.level.full ≡ u.full

-- 4. the average that 13 is worked out from is the rule's, over all milliseconds since set-up
abbrev pub AverageSinceSetUp : Type 0
AverageSinceSetUp =
    (u : Setup) (health : ℕ) (first : Sample) (cells : List ℕ) (es : List Event) → (set_up_of u health first cells).answer ≡ 0
    → Signed16 (first ∷ samples_of es)
    → to_z w16 (average_current (run (from_set_up u health first cells) es).pack)
    ≡ average_of_all (milliseconds first.counter (samples_of es)) (latest_current first (samples_of es))
