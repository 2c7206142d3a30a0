-- The theorems on the recent minute that `proofs/` proves.
-- Assumes nothing.
use Rattle.std.specs.Prelude.{ℕ, true, List, [], ◌∷◌, ◌++◌, ◌↔◌, ◌≡◌, ℤ, length, replicate}
use Rattle.std.specs.Int.{w16}
use Rattle.std.proofs.Common.{SFits, of_z}
use Rattle.recent.specs.Recent.{zero_recent, recent_sound, average_of, can_give}
use Rattle.seconds.specs.Seconds.{recent_after}
use Rattle.recent_laws.specs.Kept.{begun_of, recent_of}
use Rattle.recent_laws.specs.Minute.{seconds, in_one, total_of, average_of_all}

-- every current is a signed 16-bit number
abbrev pub Currents : List ℤ → Type 0
Currents [] = Unit {0}
Currents (c ∷ cs) = SFits w16 c × Currents cs

-- ---- the state is what the milliseconds say

-- set-up: no millisecond has passed
abbrev pub NoneAtFirst : Type 0
NoneAtFirst = zero_recent ≡ recent_of []

-- a sample: its current flowed for each millisecond since the sample before
abbrev pub OneMore : Type 0
OneMore =
    (l : List ℤ) (current : ℤ) (elapsed : ℕ) → Currents l → SFits w16 current
    → recent_after (recent_of l) (of_z w16 current) elapsed ≡ recent_of (l ++ replicate elapsed current)

-- what is kept is sound
abbrev pub KeptSound : Type 0
KeptSound = (l : List ℤ) → Currents l → recent_sound (recent_of l) ≡ true

-- register 0B of what is kept is the rule's average of all
abbrev pub KeptAverage : Type 0
KeptAverage = (l : List ℤ) (latest : ℤ) → Currents l → average_of (recent_of l) (of_z w16 latest) ≡ of_z w16 (average_of_all l latest)

-- that average is a signed 16-bit number, so its word says it whole
abbrev pub AverageFits : Type 0
AverageFits = (l : List ℤ) (latest : ℤ) → Currents l → SFits w16 latest → SFits w16 (average_of_all l latest)

-- nothing is lost or moved where time is cut: the whole seconds and then what is begun are all milliseconds
abbrev pub NothingLost : Type 0
NothingLost = (l : List ℤ) → in_one (seconds l) ++ begun_of l ≡ l

-- ---- the totals of a sound state are exactly those that currents can give

-- so many signed 16-bit currents with a total
pub record Given (ms : ℕ) (z : ℤ) : Type 0 where
  pub currents : List ℤ
  pub many : length currents ≡ ms
  pub fit : Currents currents
  pub total : total_of currents ≡ z

-- over every length
abbrev pub GivenExactly : Type 0
GivenExactly = (ms : ℕ) (z : ℤ) → (can_give ms z ≡ true) ↔ Given ms z
