-- What happens to a thirteen-cell pack: samples and calls of any kind, in any order.
-- Assumes nothing.
use Rattle.std.specs.Prelude.{ℕ, ◌<◌, Bool, true, false, List, [], ◌∷◌, ◌++◌, ◌≡◌}
use Rattle.chatter.specs.Histories.{run_of}
use Rattle.commands.specs.Answers.{served}
use Rattle.commands_laws.specs.Visits.{Visit}
use Rattle.frame.specs.Transactions.{read_bytes}
use Rattle.frame_laws.specs.Requests.{WriteBytes}
use Rattle.pack.specs.Fits.{SampleFits}
use Rattle.pack.specs.declared.Sample.{Sample}
use Rattle.thirteen.specs.Transact.{thirteen_side, transact_answer, transact_reply, transact_of}
use Rattle.commands.specs.declared.Transacted.{Transacted}
use Rattle.thirteen_pack.specs.Fits.{CellsFit, ThirteenFits}
use Rattle.thirteen_pack.specs.Sample.{sample_of}
use Rattle.thirteen_pack.specs.declared.ThirteenState.{ThirteenState}

-- ---- a call

-- the driver's mark and bytes, and the length of the lent reply room
pub record Call : Type 0 where
  pub read : Bool
  pub bytes : List ℕ
  pub room : ℕ

abbrev pub result : ThirteenState → Call → Transacted ThirteenState
result s c = transact_of s c.read c.bytes c.room

abbrev pub answer : ThirteenState → Call → ℕ
answer s c = transact_answer s c.read c.bytes c.room

abbrev pub reply : ThirteenState → Call → List ℕ
reply s c = transact_reply s c.read c.bytes c.room

-- as a visit to this side of the bus
abbrev pub visit : ThirteenState → Call → Visit
visit s c = record { side = thirteen_side s; read = c.read; bytes = c.bytes; room = c.room }

-- a reader's exchange is what it sent followed by what it heard
abbrev pub exchange : ThirteenState → Call → List ℕ
exchange s c = c.bytes ++ reply s c

-- a call that reads a command
abbrev pub Reads : Call → ℕ → Type 0
Reads c command = (c.read ≡ true) × (c.bytes ≡ read_bytes 0x16 command)

-- a call that writes a word to it, with PEC or without
abbrev pub Writes : Call → ℕ → ℕ → Bool → Type 0
Writes c command word checked = (c.read ≡ false) × WriteBytes 0x16 command word checked c.bytes

-- a served read of some command; the struct's fields and the command hold what their types let them hold
pub record Exchanged (s : ThirteenState) (c : Call) : Type 0 where
  pub command : ℕ
  pub reads : Reads c command
  pub is-served : served (answer s c) ≡ true
  pub a_byte : command < 256
  pub fits : ThirteenFits s.pack

-- ---- events

-- a sample with the cells that it brings, or a call
pub data Event : Type 0 where
  sample : Sample → List ℕ → Event
  call : Call → Event

-- the state that an event leaves
abbrev pub step : ThirteenState → Event → ThirteenState
step s (sample x cells) = (sample_of s x cells).state
step s (call c) = (result s c).state

-- the state after events, the oldest first
abbrev pub run : ThirteenState → List Event → ThirteenState
run s es = run_of step s es

-- the samples among them
abbrev pub samples_of : List Event → List Sample
samples_of [] = []
samples_of (sample x cells ∷ es) = x ∷ samples_of es
samples_of (call c ∷ es) = samples_of es

-- the fields of what events bring hold what their types let them hold
abbrev pub EventsFit : List Event → Type 0
EventsFit [] = Unit {0}
EventsFit (sample x cells ∷ es) = SampleFits x × CellsFit cells × EventsFit es
EventsFit (call c ∷ es) = EventsFit es
