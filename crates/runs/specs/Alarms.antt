-- Alarms over histories: what is asked of each accepted sample.
-- Assumes nothing.
use Rattle.std.specs.Prelude.{ℕ, ◌≤◌, Bool, true, false, List, [], ◌∷◌, ◌++◌, ◌≡◌}
use Rattle.broadcasts.specs.Broadcasts.{alarm_goes}
use Rattle.clock.specs.Sample.{elapsed_of, moved_of}
use Rattle.alarms.specs.Alarms.{any_alarm}
use Rattle.pack.specs.declared.Sample.{Sample}
use Rattle.pack.specs.declared.State.{State}
use Rattle.runs.specs.Events.{Event, sample, call, run, accepted, time_of, ServedWrite}
use Rattle.written.specs.Written.{bit_set}

-- at an accepted sample an alarm bit is set with ALARM_MODE clear at the moment of sending, at most 1 s after the one before
abbrev pub Alarming : State → Event → Type 0
Alarming s (sample x n) =
    accepted s (sample x n) ≡ true
    → (any_alarm (moved_of s.pack x) ≡ true) × ((moved_of s.pack x).host.AlarmMode ≡ false)
    × (elapsed_of x.counter s.pack.latest.counter ≤ 1000)
Alarming s (call c) = Unit {0}

-- no alarm goes at an accepted sample
abbrev pub NoAlarm : State → Event → Type 0
NoAlarm s (sample x n) = accepted s (sample x n) ≡ true → alarm_goes (moved_of s.pack x) ≡ false
NoAlarm s (call c) = Unit {0}

-- an alarm goes at some accepted sample of a history, at most so many milliseconds from its start
pub record AlarmWithin (most : ℕ) (s : State) (es : List Event) : Type 0 where
  pub before : List Event
  pub x : Sample
  pub n : ℕ
  pub after : List Event
  pub splits : es ≡ before ++ sample x n ∷ after
  pub is_accepted : accepted (run s before) (sample x n) ≡ true
  pub goes : alarm_goes (moved_of (run s before).pack x) ≡ true
  pub soon : time_of s (before ++ sample x n ∷ []) ≤ most

-- a served write to 03 with bit k set or clear, as told
abbrev pub ModeWrite : ℕ → Bool → State → Event → Type 0
ModeWrite k on s e = (word : ℕ) × ServedWrite s e 0x03 word × (bit_set k word ≡ on)

-- no such write
abbrev pub NoModeWrite : ℕ → Bool → State → Event → Type 0
NoModeWrite k on s e = ModeWrite k on s e → ⊥
