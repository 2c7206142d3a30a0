-- Histories: samples and transactions in any order, each with what it is lent.
-- Assumes nothing.
use Rattle.std.specs.Prelude.{ℕ, ◌+◌, Bool, true, false, cond, not, ◌||◌, List, [], ◌∷◌, ◌++◌, ◌≡◌, eqb}
use Rattle.bus_laws.specs.Calls.{Call, result, answer, Writes}
use Rattle.chatter.specs.Histories.{run_of, over}
use Rattle.commands.specs.Answers.{served}
use Rattle.broadcasts.specs.Broadcasts.{broadcast_of}
use Rattle.clock.specs.Broadcast.{sample_of}
use Rattle.clock.specs.Sample.{elapsed_of, moved_of}
use Rattle.pack.specs.Fits.{SampleFits}
use Rattle.pack.specs.declared.Sample.{Sample}
use Rattle.pack.specs.declared.State.{State}
use Rattle.rooms.specs.Rooms.{Bytes}

-- a sample and the length of the lent broadcast room, or a transaction: both sheets, mark, bytes, length of the lent reply room
pub data Event : Type 0 where
  sample : Sample → ℕ → Event
  call : Call → Event

-- the state that an event leaves
abbrev pub step : State → Event → State
step s (sample x n) = (sample_of s x n).state
step s (call c) = (result s c).state

-- the state after a history, the oldest event first
abbrev pub run : State → List Event → State
run s es = run_of step s es

-- what is said of an event in its state holds at every event of a history
abbrev pub Throughout : (State → Event → Type 0) → State → List Event → Type 0
Throughout A s [] = Unit {0}
Throughout A s (e ∷ es) = A s e × Throughout A (step s e) es

-- the fields of what an event brings hold what their types let them hold
abbrev pub EventFits : State → Event → Type 0
EventFits s (sample x n) = SampleFits x
EventFits s (call c) = Bytes c.bytes

-- ---- what an event is

-- an event's answer number
abbrev pub answer_to : State → Event → ℕ
answer_to s (sample x n) = (sample_of s x n).answer
answer_to s (call c) = answer s c

-- a sample is accepted where its answer is 0
abbrev pub accepted : State → Event → Bool
accepted s (sample x n) = eqb (answer_to s (sample x n)) 0
accepted s (call c) = false

-- a served write of a word to a command
abbrev pub ServedWrite : State → Event → ℕ → ℕ → Type 0
ServedWrite s (sample x n) command word = ⊥
ServedWrite s (call c) command word = Writes c command word × (served (answer s c) ≡ true)

-- an idle event: a refused sample, a read or a refused call (RULES 16.1)
abbrev pub is_idle : State → Event → Bool
is_idle s (sample x n) = not (accepted s (sample x n))
is_idle s (call c) = c.read || not (served (answer s c))

abbrev pub IdleEvent : State → Event → Type 0
IdleEvent s e = is_idle s e ≡ true

-- ---- accepted samples: what they send, and the time that runs over them

-- the broadcast bytes of an event: of a refused sample none
abbrev pub sent : State → Event → List ℕ
sent s (sample x n) = cond (accepted s (sample x n)) (broadcast_of (moved_of s.pack x)) []
sent s (call c) = []

-- the broadcasts of a history: the bytes of each accepted sample
abbrev pub adds_sent : State → Event → List (List ℕ) → List (List ℕ)
adds_sent s e later = cond (accepted s e) (sent s e ∷ []) [] ++ later

abbrev pub broadcasts : State → List Event → List (List ℕ)
broadcasts s es = over step adds_sent [] s es

-- what an event adds to the accepted samples: itself, or nothing
abbrev pub taken : State → Event → List Sample
taken s (sample x n) = cond (accepted s (sample x n)) (x ∷ []) []
taken s (call c) = []

-- the accepted samples of a history, the oldest first
abbrev pub adds_taken : State → Event → List Sample → List Sample
adds_taken s e later = taken s e ++ later

abbrev pub accepted_of : State → List Event → List Sample
accepted_of s es = over step adds_taken [] s es

-- what elapses by an event: time runs over accepted samples
abbrev pub passes : State → Event → ℕ
passes s (sample x n) = cond (accepted s (sample x n)) (elapsed_of x.counter s.pack.latest.counter) 0
passes s (call c) = 0

-- how long a history takes
abbrev pub adds_time : State → Event → ℕ → ℕ
adds_time s e later = passes s e + later

abbrev pub time_of : State → List Event → ℕ
time_of s es = over step adds_time 0 s es

-- elapsed, sample by sample: of each accepted one
abbrev pub adds_elapsed : State → Event → List ℕ → List ℕ
adds_elapsed s e later = cond (accepted s e) (passes s e ∷ []) [] ++ later

abbrev pub elapsed_each : State → List Event → List ℕ
elapsed_each s es = over step adds_elapsed [] s es
