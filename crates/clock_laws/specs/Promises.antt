-- Document 01, Clock and broadcasts, over one sample: the theorems that `proofs/` proves.
-- Assumes nothing.
use Rattle.std.specs.Prelude.{ℕ, ◌-◌, ◌*◌, ◌%◌, ◌^◌, ◌≤◌, ◌<◌, true, false, cond, List, ◌≡◌, pos, nat_abs, ◌+ℤ◌, ◌*ℤ◌, length, drop}
use Rattle.std.specs.Int.Signed.{lt_z}
use Rattle.std.specs.Int.{w16}
use Rattle.std.proofs.Common.{SFits}
use Rattle.broadcasts.specs.Broadcasts.{alarm_goes, charger_goes}
use Rattle.clock.specs.Broadcast.{sample_of, broadcast_room}
use Rattle.clock.specs.Sample.{elapsed_of}
use Rattle.clock_laws.specs.Steps.{held_to}
use Rattle.cycles.specs.Cycles.{drawn_by}
use Rattle.pack.specs.Fits.{Fits, SampleFits}
use Rattle.pack.specs.Kept.{latest_of}
use Rattle.pack.specs.Sound.{sound_of}
use Rattle.pack.specs.declared.Pack.{Pack}
use Rattle.pack.specs.declared.Sample.{Sample}
use Rattle.pack.specs.declared.State.{State}
use Rattle.tank.specs.Charge.{charge_after}
use Rattle.capacity.specs.Capacity.{milliamp_ms}

-- 1. a sample on a sound state leaves a sound state, refused or not
abbrev pub SampleSound : Type 0
SampleSound = (s : State) (x : Sample) (n : ℕ) → sound_of s ≡ true → sound_of (sample_of s x n).state ≡ true

-- a sample leaves fields that hold what their types let them hold, refused or not
abbrev pub SampledFits : Type 0
SampledFits = (s : State) (x : Sample) (n : ℕ) → Fits s → SampleFits x → Fits (sample_of s x n).state

-- samples leave the error code as it was
abbrev pub ErrorStays : Type 0
ErrorStays = (s : State) (x : Sample) (n : ℕ) → (sample_of s x n).state.error ≡ s.error

-- 2. of two true times less than 2^32 ms apart, counted by a 32-bit counter, elapsed is the difference
abbrev pub ElapsedTrue : Type 0
ElapsedTrue =
    (earlier later : ℕ) → earlier ≤ later → later - earlier < 2 ^ 32
    → elapsed_of (later % 2 ^ 32) (earlier % 2 ^ 32) ≡ later - earlier

-- 3. a sample adds current × elapsed to the charge, in integers, held between 0 and full
abbrev pub ChargeTrue : Type 0
ChargeTrue =
    (charge full elapsed : ℕ) (x : Sample) → SFits w16 x.current → charge ≤ milliamp_ms full
    → pos (charge_after charge full (latest_of x).current elapsed) ≡ held_to (pos (milliamp_ms full)) (pos charge +ℤ x.current *ℤ pos elapsed)

-- and draws, where its current is below 0, that current's magnitude × elapsed
abbrev pub DrawnTrue : Type 0
DrawnTrue =
    (elapsed : ℕ) (x : Sample) → SFits w16 x.current
    → drawn_by (latest_of x).current elapsed ≡ cond (lt_z x.current (pos 0)) (nat_abs x.current * elapsed) 0

-- 4. while ALARM_MODE is set no alarm goes
abbrev pub SilentInAlarmMode : Type 0
SilentInAlarmMode = (q : Pack) → q.host.AlarmMode ≡ true → alarm_goes q ≡ false

-- while CHARGER_MODE is set no charger word goes
abbrev pub SilentInChargerMode : Type 0
SilentInChargerMode = (q : Pack) → q.host.ChargerMode ≡ true → charger_goes q ≡ false

-- 5. the number of bytes sent is five times the number of messages, four times in plain
abbrev pub BytesEach : Type 0
BytesEach = (s : State) (x : Sample) (n : ℕ) → (sample_of s x n).length ≡ cond s.pack.settings.plain 4 5 * (sample_of s x n).messages

-- at most 20, at most 16 in plain
abbrev pub BytesAtMost : Type 0
BytesAtMost = (s : State) (x : Sample) (n : ℕ) → (sample_of s x n).length ≤ cond s.pack.settings.plain 16 20

-- and bytes past them in the room stay
abbrev pub RestStays : Type 0
RestStays =
    (s : State) (x : Sample) (room : List ℕ)
    → drop (sample_of s x (length room)).length (broadcast_room s x room) ≡ drop (sample_of s x (length room)).length room
