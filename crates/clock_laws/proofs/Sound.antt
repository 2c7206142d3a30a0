-- A sample leaves a sound state sound, and the error code as it was.
-- Assumes nothing.
use Prim.Native.Nat.{ℕ, ◌+◌, ◌-◌, ◌≤◌, min}
use mathlib.Core.Bool.{Bool, true, false, cond, not, ◌&&◌}
use mathlib.Core.Path.{◌≡◌, refl}
use native.Mathlib.Omega.{arith}
use borrow.Author.Tests.{eq-eqb, eqb-true, leb-false, not-false}
use lib.Dec.{eqb, leb}
use Rattle.tank.proofs.Charge as tank
use Rattle.broadcasts.specs.Broadcasts.{alarm_goes, charger_goes}
use Rattle.clock.proofs.Outcome.{outcome}
use Rattle.clock.specs.Broadcast.{sampled_of}
use Rattle.clock.specs.Sample.{elapsed_of, moved_of}
use Rattle.clock_laws.specs.Promises.{SampleSound, ErrorStays}
use Rattle.clock_laws.proofs.Timers.{no_more}
use Rattle.pack.proofs.Soundness.{timers_facts, timers-sound, parts, pack-sound, pack_of_sound, code_of_sound, sound_state}
use Rattle.pack.specs.Kept.{latest_of}
use Rattle.pack.specs.Sound.{sound_of}
use Rattle.pack.specs.declared.Sample.{Sample}
use Rattle.pack.specs.declared.State.{State}
use Rattle.seconds.proofs.After as recent

-- a timer that restarts where it reaches its mark stays below it
below_mark : (b : Bool) (timer mark : ℕ) → leb mark timer ≡ b → cond b 0 timer ≤ mark - 1
below_mark true timer mark h = omega arith
below_mark false timer mark h = omega (arith, leb-false mark timer h)

charger_low : (mode : Bool) (timer : ℕ) → cond (not mode && leb 30000 (cond mode 0 timer)) 0 (cond mode 0 timer) ≤ 29999
charger_low true timer = omega arith
charger_low false timer = below_mark (leb 30000 timer) timer 30000 refl

stood : (goes mode : Bool) (timer : ℕ) → mode ≡ true → cond goes 0 (cond mode 0 timer) ≡ 0
stood true mode timer h = refl
stood false mode timer h = simp h

-- the bit clears where the hold is 0, and only there
bit_off : (mode : Bool) (hold : ℕ) → hold ≡ 0 → mode && not (eqb hold 0) ≡ false
bit_off true hold h = simp (eq-eqb hold 0 h)
bit_off false hold h = refl

off_bit : (mode : Bool) (hold left : ℕ) → (mode ≡ false → hold ≡ 0) → left ≤ hold → mode && not (eqb left 0) ≡ false → left ≡ 0
off_bit true hold left c l h = eqb-true left 0 (not-false _ h)
off_bit false hold left c l h = omega (arith, c refl)

-- an accepted sample leaves a sound state
pub sampled_sound : (s : State) (x : Sample) → sound_of s ≡ true → sound_of (record { error = s.error; pack = sampled_of s.pack x }) ≡ true
unfolding sampled_of moved_of charger_goes
sampled_sound s x h =
    let f = parts s.pack (pack_of_sound s h) in
    let m = timers_facts s.pack.host s.pack.timers f.timers in
    let e = elapsed_of x.counter s.pack.latest.counter in
    let t = s.pack.timers in
    sound_state _
    (pack-sound _
    (record {
      settings = f.settings;
      tank = tank.after_sound s.pack.settings s.pack.tank (latest_of x) e f.tank;
      toward = tank.toward-after s.pack.settings s.pack.tank (latest_of x) e f.toward;
      run = tank.run-after s.pack.settings s.pack.tank (latest_of x) e;
      recent = recent.after_sound s.pack.recent (latest_of x).current e f.recent;
      timers =
          timers-sound _ _
          (record {
            hold = omega (arith, m.hold);
            alarm = omega (arith, no_more (alarm_goes (moved_of s.pack x)) (min 10000 (t.alarm + e)));
            charger = charger_low s.pack.host.ChargerMode (min 30000 (t.charger + e));
            stands = λ on. stood (charger_goes (moved_of s.pack x)) s.pack.host.ChargerMode (min 30000 (t.charger + e)) on;
            ended = λ z. bit_off s.pack.host.AlarmMode (t.hold - e) z;
            clear = λ z. off_bit s.pack.host.AlarmMode t.hold (t.hold - e) m.clear (omega arith) z;
          });
    }))
    (code_of_sound s h)

-- a sample on a sound state leaves a sound state, refused or not
pub sample_sound : SampleSound
sample_sound s x n h = outcome (λ r. sound_of r.state ≡ true) s x n h h (sampled_sound s x)

-- the error code stays
pub error_stays : ErrorStays
error_stays s x n = outcome (λ r. r.state.error ≡ s.error) s x n refl refl (λ h. refl)
