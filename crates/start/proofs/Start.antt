-- Set-up's promises: a served one is sound, a refused one gives the all-zero state, which isn't; 002's initial values hold; both states fit.
-- Assumes nothing.
use mathlib.Core.Bool.{Bool, true, false, cond}
use mathlib.Core.Logic.{◌⊎◌, inl, inr}
use mathlib.Core.Path.{◌≡◌, refl}
use native.Mathlib.Omega.{arith}
use native.Mathlib.Nat.{mul-le-mul_right}
use lib.Dec.{eqb}
use Rattle.pack.proofs.Soundness.{settings-sound, tank-sound, toward-sound, run-sound, pack-sound, sound_state}
use Rattle.pack.proofs.Kept.{kept_fits}
use Rattle.pack.specs.Fits.{Fits, SampleFits}
use Rattle.pack.specs.Sound.{settings_sound, timers_sound, pack_sound, sound_of}
use Rattle.pack.specs.declared.Sample.{Sample}
use Rattle.recent.proofs.Fits.{zero_recent_fits}
use Rattle.recent.proofs.Soundness.{zero_sound}
use Rattle.start.proofs.Conditions.{served}
use Rattle.start.specs.Fits.{SetupFits}
use Rattle.start.specs.Promises.{ZeroUnsound, SoundWhenServed, ServedOrZero, Initial, InitialValues, ZeroFits, StartFits}
use Rattle.start.specs.SetUp.{set_up_of, set_up_refused, pack_of, zero_state}
use Rattle.start.specs.declared.Setup.{Setup}
use Rattle.pack.specs.declared.Answered.{Answered}
use Rattle.pack.specs.declared.State.{State}

-- the two outcomes
abbrev refusal : Answered State
refusal = record { answer = 11; state = zero_state }

abbrev start : Setup → Sample → Answered State
start u first = record { answer = 0; state = record { error = 0; pack = pack_of u first } }

-- what holds of both outcomes holds of set-up's
module _ (P : Answered State → Type 0) (u : Setup) (first : Sample) (f : P refusal) (g : set_up_refused u ≡ false → P (start u first)) where
  chosen : (b : Bool) → set_up_refused u ≡ b → P (cond b refusal (start u first))
  chosen true h = f
  chosen false h = g h

  outcome : P (set_up_of u first)
  unfolding set_up_of
  outcome = chosen (set_up_refused u) refl

pub zero_unsound : ZeroUnsound
unfolding sound_of pack_sound settings_sound
zero_unsound = refl

start_sound : (u : Setup) (first : Sample) → set_up_refused u ≡ false → sound_of (start u first).state ≡ true
unfolding pack_of timers_sound
start_sound u first h =
    let f = served u h in
    sound_state _
    (pack-sound _
    (record {
      settings = settings-sound _ (record { design = f.design; voltage = f.voltage });
      tank = tank-sound _ (record { full = f.full; charge = mul-le-mul_right 3600000 f.remaining });
      toward = toward-sound u.DesignCapacity 0 (omega (arith, f.design));
      run = run-sound _ (record { most = omega arith; none = λ e. refl });
      recent = zero_sound;
      timers = refl;
    }))
    (omega arith)

pub sound_when_served : SoundWhenServed
sound_when_served u first = outcome (λ r. sound_of r.state ≡ eqb r.answer 0) u first zero_unsound (start_sound u first)

pub served_or_zero : ServedOrZero
served_or_zero u first = outcome (λ r. (r.answer ≡ 0) ⊎ (r ≡ refusal)) u first (inr refl) (λ h. inl refl)

pub initial : InitialValues
unfolding pack_of
initial u first =
    outcome (λ r. r.answer ≡ 0 → Initial u r) u first (λ e. absurd (omega (arith, e)))
    (λ h e. record { RemainingCapacityAlarm = refl; RemainingTimeAlarm = refl; AlarmMode = refl; ChargerMode = refl; CapacityMode = refl })

-- ---- both states fit

pub zero_fits : ZeroFits
zero_fits =
    record {
      error = omega arith;
      pack =
          record {
            settings =
                record {
                  DesignCapacity = omega arith;
                  DesignVoltage = omega arith;
                  MaxError = omega arith;
                  ManufactureDate = omega arith;
                  SerialNumber = omega arith;
                  ChargingCurrent = omega arith;
                  ChargingVoltage = omega arith;
                  TemperatureLimit = omega arith;
                  DischargeLimit = omega arith;
                };
            host = record { ManufacturerAccess = omega arith; RemainingCapacityAlarm = omega arith; RemainingTimeAlarm = omega arith; AtRate = omega arith };
            latest = record { voltage = omega arith; current = omega arith; temperature = omega arith; counter = omega arith };
            recent = zero_recent_fits;
            tank = record { charge = omega arith; full = omega arith; CycleCount = omega arith; toward = omega arith; drawn = omega arith };
            timers = record { hold = omega arith; alarm = omega arith; charger = omega arith };
          };
    }

first_fits : (u : Setup) (first : Sample) → SetupFits u → SampleFits first → Fits (start u first).state
unfolding pack_of
first_fits u first f x =
    record {
      error = omega arith;
      pack =
          record {
            settings =
                record {
                  DesignCapacity = f.DesignCapacity;
                  DesignVoltage = f.DesignVoltage;
                  MaxError = f.MaxError;
                  ManufactureDate = f.ManufactureDate;
                  SerialNumber = f.SerialNumber;
                  ChargingCurrent = f.ChargingCurrent;
                  ChargingVoltage = f.ChargingVoltage;
                  TemperatureLimit = f.TemperatureLimit;
                  DischargeLimit = f.DischargeLimit;
                };
            host =
                record {
                  ManufacturerAccess = omega arith;
                  RemainingCapacityAlarm = omega (arith, f.DesignCapacity);
                  RemainingTimeAlarm = omega arith;
                  AtRate = omega arith;
                };
            latest = kept_fits first x;
            recent = zero_recent_fits;
            tank = record { charge = omega (arith, f.remaining); full = f.full; CycleCount = f.CycleCount; toward = omega arith; drawn = omega arith };
            timers = record { hold = omega arith; alarm = omega arith; charger = omega arith };
          };
    }

pub start_fits : StartFits
start_fits u first f x = outcome (λ r. Fits r.state) u first zero_fits (λ h. first_fits u first f x)
