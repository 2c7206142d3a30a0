-- What set-up promises. start's proofs/Start proves each.
-- Assumes nothing.
use Rattle.std.specs.Prelude.{◌/◌, false, ◌⊎◌, ◌≡◌, eqb}
use Rattle.pack.specs.Fits.{Fits, SampleFits}
use Rattle.pack.specs.Sound.{sound_of}
use Rattle.pack.specs.declared.Sample.{Sample}
use Rattle.start.specs.Fits.{SetupFits}
use Rattle.start.specs.SetUp.{set_up_of, zero_state}
use Rattle.start.specs.declared.Setup.{Setup}
use Rattle.pack.specs.declared.Answered.{Answered}
use Rattle.pack.specs.declared.State.{State}

-- the all-zero state isn't sound
abbrev pub ZeroUnsound : Type 0
ZeroUnsound = sound_of zero_state ≡ false

-- set-up's state is sound exactly when its answer is 0
abbrev pub SoundWhenServed : Type 0
SoundWhenServed = (u : Setup) (first : Sample) → sound_of (set_up_of u first).state ≡ eqb (set_up_of u first).answer 0

-- the answer is 0, or 11 with the all-zero state
abbrev pub ServedOrZero : Type 0
ServedOrZero =
    (u : Setup) (first : Sample) → ((set_up_of u first).answer ≡ 0) ⊎ (set_up_of u first ≡ record { answer = 11; state = zero_state })

-- what 002 section 4.4.1 demands of a pack at first
pub record Initial (u : Setup) (r : Answered State) : Type 0 where
  pub RemainingCapacityAlarm : r.state.pack.host.RemainingCapacityAlarm ≡ u.DesignCapacity / 10
  pub RemainingTimeAlarm : r.state.pack.host.RemainingTimeAlarm ≡ 10
  pub AlarmMode : r.state.pack.host.AlarmMode ≡ false
  pub ChargerMode : r.state.pack.host.ChargerMode ≡ false
  pub CapacityMode : r.state.pack.host.CapacityMode ≡ false

abbrev pub InitialValues : Type 0
InitialValues = (u : Setup) (first : Sample) → (set_up_of u first).answer ≡ 0 → Initial u (set_up_of u first)

-- ---- what the types let be given gives a state whose fields hold what their types let them hold

-- the all-zero state
abbrev pub ZeroFits : Type 0
ZeroFits = Fits zero_state

-- set-up's state, served or refused
abbrev pub StartFits : Type 0
StartFits = (u : Setup) (first : Sample) → SetupFits u → SampleFits first → Fits (set_up_of u first).state
