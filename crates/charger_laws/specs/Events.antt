-- What happens to a charger: samples and calls of any kind, in any order.
-- Assumes nothing.
use Rattle.std.specs.Prelude.{ℕ, ◌+◌, ◌<◌, Bool, true, false, cond, not, ◌&&◌, ◌||◌, List, [], ◌∷◌, ◌++◌, ◌≡◌, eqb}
use Rattle.charger_state.specs.Charger.{sample_of, word_of}
use Rattle.charger.specs.Transact.{charger_side, asked, transact_answer, transact_reply, transact_of}
use Rattle.charger_state.specs.declared.Charger.{Charger}
use Rattle.commands.specs.declared.Transacted.{Transacted}
use Rattle.chatter.specs.Histories.{run_of, over}
use Rattle.chatter.specs.Struck.{Party}
use Rattle.clock.specs.Sample.{elapsed_of}
use Rattle.commands.specs.Answers.{served}
use Rattle.commands_laws.specs.Visits.{Visit}
use Rattle.frame.specs.Transactions.{read_bytes}
use Rattle.frame.specs.declared.Request.{Request}
use Rattle.frame.specs.declared.Request.TheVariants.{Refused, Read, Write}
use Rattle.frame_laws.specs.Requests.{WriteBytes}
use Rattle.pack.specs.declared.Sample.{Sample}
use Rattle.written.specs.Written.{bit_set}

-- ---- a call

-- the driver's mark and bytes, and the length of the lent reply room
pub record Call : Type 0 where
  pub read : Bool
  pub bytes : List ℕ
  pub room : ℕ

abbrev pub result : Charger → Call → Transacted Charger
result s c = transact_of s c.read c.bytes c.room

abbrev pub answer : Charger → Call → ℕ
answer s c = transact_answer s c.read c.bytes c.room

abbrev pub reply : Charger → Call → List ℕ
reply s c = transact_reply s c.read c.bytes c.room

-- as a visit to the charger's side of the bus
abbrev pub visit : Charger → Call → Visit
visit s c = record { side = charger_side s; read = c.read; bytes = c.bytes; room = c.room }

-- a reader's exchange is what it sent followed by what it heard
abbrev pub exchange : Charger → Call → List ℕ
exchange s c = c.bytes ++ reply s c

-- a call that reads a command
abbrev pub Reads : Call → ℕ → Type 0
Reads c command = (c.read ≡ true) × (c.bytes ≡ read_bytes 0x12 command)

-- a call that writes a word to it, with or without PEC
abbrev pub Writes : Call → ℕ → ℕ → Type 0
Writes c command word = (c.read ≡ false) × ((checked : Bool) × WriteBytes 0x12 command word checked c.bytes)

-- a served read of some command, which is a byte
pub record Exchanged (s : Charger) (c : Call) : Type 0 where
  pub command : ℕ
  pub reads : Reads c command
  pub is-served : served (answer s c) ≡ true
  pub a_byte : command < 256

-- ---- events

pub data Event : Type 0 where
  sample : Sample → Event
  call : Call → Event

-- the state that an event leaves
abbrev pub step : Charger → Event → Charger
step s (sample x) = (sample_of s x).state
step s (call c) = (result s c).state

-- the state after events, the oldest first
abbrev pub run : Charger → List Event → Charger
run s es = run_of step s es

-- what elapses by an event: time runs over accepted samples
abbrev pub passes : Charger → Event → ℕ
passes s (sample x) = cond (eqb (sample_of s x).answer 0) (elapsed_of x.counter s.latest.counter) 0
passes s (call c) = 0

-- how long events take
abbrev pub adds_time : Charger → Event → ℕ → ℕ
adds_time s e later = passes s e + later

abbrev pub time_of : Charger → List Event → ℕ
time_of s es = over step adds_time 0 s es

-- a request that writes this command
abbrev pub writes : ℕ → Request → Bool
writes k (Refused n) = false
writes k (Read command) = false
writes k (Write command word checked) = eqb command k

-- an event by which a word for this command is taken: a served write of it
abbrev pub takes : ℕ → Charger → Event → Bool
takes k s (sample x) = false
takes k s (call c) = served (answer s c) && writes k (asked c.read c.bytes)

-- a request that resets: a word for ChargerMode with POR_RESET or RESET_TO_ZERO
abbrev pub resetting : Request → Bool
resetting (Refused n) = false
resetting (Read command) = false
resetting (Write command word checked) = eqb command 0x12 && (bit_set 2 word || bit_set 3 word)

-- an event by which such a word is taken
abbrev pub resets : Charger → Event → Bool
resets s (sample x) = false
resets s (call c) = served (answer s c) && resetting (asked c.read c.bytes)

-- none is taken by events
abbrev pub NoReset : Charger → List Event → Type 0
NoReset s [] = Unit {0}
NoReset s (e ∷ es) = (resets s e ≡ false) × NoReset (step s e) es

-- no word for this command is taken by events
abbrev pub NoneTaken : ℕ → Charger → List Event → Type 0
NoneTaken k s [] = Unit {0}
NoneTaken k s (e ∷ es) = (takes k s e ≡ false) × NoneTaken k (step s e) es

-- ---- what an event gives, and chatter (R-11)

-- its answer
abbrev pub answer_to : Charger → Event → ℕ
answer_to s (sample x) = (sample_of s x).answer
answer_to s (call c) = answer s c

-- its reply; a sample has none
abbrev pub reply_to : Charger → Event → List ℕ
reply_to s (sample x) = []
reply_to s (call c) = reply s c

-- an idle event: a refused sample, a read or a refused call
abbrev pub is_idle : Charger → Event → Bool
is_idle s (sample x) = not (eqb (sample_of s x).answer 0)
is_idle s (call c) = c.read || not (served (answer s c))

-- the charger as what takes events: it has no error code, so that states are the same if they are equal
abbrev pub charger_party : Party Charger Event
charger_party =
    record {
      step = step;
      idle = is_idle;
      Same = λ s t. s ≡ t;
      Gives = λ s t e. (answer_to s e ≡ answer_to t e) × (reply_to s e ≡ reply_to t e);
    }
