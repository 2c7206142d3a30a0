-- Set-up gives a sound state, and every sample and every call keeps it so; fields hold what their types let them hold.
-- Assumes nothing.
use Prim.Native.Nat.{ℕ, ◌<◌}
use mathlib.Core.Bool.{Bool, true, false, cond, not}
use mathlib.Core.List.{List, [], ◌∷◌}
use mathlib.Core.Logic.{◌⊎◌, inl, inr}
use mathlib.Core.Path.{◌≡◌, refl}
use native.Mathlib.Nat.{mul-le-mul_right}
use native.Mathlib.Omega.{arith}
use lib.Dec.{eqb}
use Rattle.commands.proofs.Answers.{code_most}
use Rattle.clock.specs.Sample.{elapsed_of}
use Rattle.pack.proofs.Kept.{kept_fits}
use Rattle.pack.specs.Fits.{SampleFits}
use Rattle.pack.specs.Kept.{latest_of}
use Rattle.pack.specs.declared.Sample.{Sample}
use Rattle.recent.proofs.Fits.{zero_recent_fits, below_replicate}
use Rattle.recent.proofs.Soundness.{zero_sound}
use Rattle.seconds.proofs.After.{after_sound, after_fits}
use Rattle.start.proofs.Conditions.{served}
use Rattle.start.specs.Fits.{SetupFits}
use Rattle.start.specs.SetUp.{set_up_refused}
use Rattle.start.specs.declared.Setup.{Setup}
use Rattle.tank.proofs.Charge.{charge_held}
use Rattle.thirteen.specs.Transact.{transact_of}
use Rattle.thirteen_laws.specs.Events.{Call, result, answer, Event, sample, call, step, run, EventsFit}
use Rattle.thirteen_laws.specs.Promises.{ZeroUnsound, SoundWhenServed, ServedOrZero, SoundStays, StartFits, FitsStays}
use Rattle.thirteen_pack.proofs.Facts.{facts_of_sound, pack_of_sound, pack-sound, code_of_sound, sound_state}
use Rattle.thirteen_pack.specs.Fits.{CellsFit, Fits}
use Rattle.thirteen_pack.specs.Sample.{sampled_of, sample_of}
use Rattle.thirteen_pack.specs.SetUp.{pack_of, zero_state, set_up_of}
use Rattle.thirteen_pack.specs.Sound.{pack_sound, sound_of}
use Rattle.pack.specs.declared.Answered.{Answered}
use Rattle.thirteen_pack.specs.declared.ThirteenState.{ThirteenState}

-- ---- set-up

abbrev refusal : Answered ThirteenState
refusal = record { answer = 11; state = zero_state }

abbrev start : Setup → ℕ → Sample → List ℕ → Answered ThirteenState
start u health first cells = record { answer = 0; state = record { error = 0; pack = pack_of u health first cells } }

-- what holds of both outcomes holds of set-up's
started : (P : Answered ThirteenState → Type 0) (u : Setup) (health : ℕ) (first : Sample) (cells : List ℕ) → P refusal
    → (set_up_refused u ≡ false → P (start u health first cells)) → P (set_up_of u health first cells)
unfolding set_up_of
started P u health first cells f g = go (set_up_refused u) refl
  where
    go : (b : Bool) → set_up_refused u ≡ b → P (cond b refusal (start u health first cells))
    go true h = f
    go false h = g h

pub zero_unsound : ZeroUnsound
unfolding sound_of pack_sound
zero_unsound = refl

start_sound : (u : Setup) (health : ℕ) (first : Sample) (cells : List ℕ) → set_up_refused u ≡ false → sound_of (start u health first cells).state ≡ true
unfolding pack_of
start_sound u health first cells h =
    let f = served u h in
    sound_state _
    (pack-sound _
    (record {
      design = f.design;
      voltage = f.voltage;
      full = f.full;
      charge = mul-le-mul_right 3600000 f.remaining;
      recent = zero_sound;
    }))
    (omega arith)

pub sound_when_served : SoundWhenServed
sound_when_served u health first cells =
    started (λ r. sound_of r.state ≡ eqb r.answer 0) u health first cells zero_unsound (start_sound u health first cells)

pub served_or_zero : ServedOrZero
served_or_zero u health first cells = started (λ r. (r.answer ≡ 0) ⊎ (r ≡ refusal)) u health first cells (inr refl) (λ h. inl refl)

-- ---- events

-- a sample gives 1 and the state as it was, or 0 and goes on
sampled : (P : Answered ThirteenState → Type 0) (s : ThirteenState) (x : Sample) (cells : List ℕ) → P (record { answer = 1; state = s })
    → (sound_of s ≡ true → P (record { answer = 0; state = record { error = s.error; pack = sampled_of s.pack x cells } })) → P (sample_of s x cells)
unfolding sample_of
sampled P s x cells f g = go (sound_of s) refl
  where
    go : (b : Bool) → sound_of s ≡ b
        → P (cond (not b) (record { answer = 1; state = s }) (record { answer = 0; state = record { error = s.error; pack = sampled_of s.pack x cells } }))
    go true h = g h
    go false h = f

-- on a sound state it goes on
pub goes_on : (s : ThirteenState) (x : Sample) (cells : List ℕ) → sound_of s ≡ true
    → (sample_of s x cells).state ≡ record { error = s.error; pack = sampled_of s.pack x cells }
unfolding sample_of
goes_on s x cells h = simp h

sampled_sound : (s : ThirteenState) (x : Sample) (cells : List ℕ) → sound_of s ≡ true → sound_of (record { error = s.error; pack = sampled_of s.pack x cells }) ≡ true
unfolding sampled_of
sampled_sound s x cells h =
    let f = facts_of_sound s h in
    let l = s.pack.level in
    let e = elapsed_of x.counter s.pack.latest.counter in
    sound_state _
    (pack-sound _
    (record {
      design = f.design;
      voltage = f.voltage;
      full = f.full;
      charge = charge_held l.charge l.full (latest_of x).current e f.charge;
      recent = after_sound s.pack.recent (latest_of x).current e f.recent;
    }))
    (code_of_sound s h)

pub step_sound : (s : ThirteenState) (e : Event) → sound_of s ≡ true → sound_of (step s e) ≡ true
unfolding transact_of
step_sound s (sample x cells) h = sampled (λ r. sound_of r.state ≡ true) s x cells h (sampled_sound s x cells)
step_sound s (call c) h = sound_state _ (pack_of_sound s h) (code_most 7 (answer s c) s.error (omega arith) (code_of_sound s h))

pub sound_stays : SoundStays
sound_stays s [] h = h
sound_stays s (e ∷ es) h = sound_stays (step s e) es (step_sound s e h)

-- ---- what the types let be held

zero_fits : Fits zero_state
zero_fits =
    record {
      error = omega arith;
      pack =
          record {
            fixed = record { DesignCapacity = omega arith; DesignVoltage = omega arith; StateOfHealth = omega arith };
            latest = record { voltage = omega arith; current = omega arith; temperature = omega arith; counter = omega arith };
            cells = record { thirteen = refl; words = below_replicate 65536 13 0 (omega arith) };
            level = record { charge = omega arith; full = omega arith };
            recent = zero_recent_fits;
          };
    }

first_fits : (u : Setup) (health : ℕ) (first : Sample) (cells : List ℕ) → SetupFits u → health < 65536 → SampleFits first → CellsFit cells
    → Fits (start u health first cells).state
unfolding pack_of
first_fits u health first cells f h x c =
    record {
      error = omega arith;
      pack =
          record {
            fixed = record { DesignCapacity = f.DesignCapacity; DesignVoltage = f.DesignVoltage; StateOfHealth = h };
            latest = kept_fits first x;
            cells = c;
            level = record { charge = omega (arith, f.remaining); full = f.full };
            recent = zero_recent_fits;
          };
    }

pub start_fits : StartFits
start_fits u health first cells f h x c = started (λ r. Fits r.state) u health first cells zero_fits (λ e. first_fits u health first cells f h x c)

sampled_fits : (s : ThirteenState) (x : Sample) (cells : List ℕ) → sound_of s ≡ true → Fits s → SampleFits x → CellsFit cells
    → Fits (record { error = s.error; pack = sampled_of s.pack x cells })
unfolding sampled_of
sampled_fits s x cells h f x_Fits c =
    let facts = facts_of_sound s h in
    let l = s.pack.level in
    let e = elapsed_of x.counter s.pack.latest.counter in
    record {
      error = f.error;
      pack =
          record {
            fixed = f.pack.fixed;
            latest = kept_fits x x_Fits;
            cells = c;
            level = record { charge = omega (arith, charge_held l.charge l.full (latest_of x).current e facts.charge, f.pack.level.full); full = f.pack.level.full };
            recent = after_fits s.pack.recent (latest_of x).current e facts.recent f.pack.recent;
          };
    }

pub fits_stays : FitsStays
unfolding transact_of
fits_stays s [] f h = f
fits_stays s (sample x cells ∷ es) f (x_Fits, c, h) =
    fits_stays (step s (sample x cells)) es (sampled (λ r. Fits r.state) s x cells f (λ sound. sampled_fits s x cells sound f x_Fits c)) h
fits_stays s (call c ∷ es) f h =
    fits_stays (step s (call c)) es (record { error = omega (arith, code_most 255 (answer s c) s.error (omega arith) (omega (arith, f.error))); pack = f.pack }) h
