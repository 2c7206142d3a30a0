-- Calls of `transact`.
-- Assumes nothing.
use Rattle.std.specs.Prelude.{ℕ, ◌+◌, ◌/◌, ◌<◌, Bool, true, false, cond, List, ◌++◌, ◌⊎◌, ◌≡◌, eqb}
use Rattle.bus.specs.Transact.{pack_side, transact_answer, transact_reply, transact_of}
use Rattle.commands.specs.declared.Transacted.{Transacted}
use Rattle.commands.specs.Answers.{served}
use Rattle.commands_laws.specs.Visits.{Visit}
use Rattle.frame.specs.Transactions.{read_bytes, reply_of, word_body}
use Rattle.frame_laws.specs.Requests.{WriteBytes}
use Rattle.gauge.specs.Word.{word_of}
use Rattle.minutes.specs.Minutes.{time_word, was_cut_off}
use Rattle.minutes.specs.declared.Time.{Time}
use Rattle.pack.specs.Fits.{PackFits}
use Rattle.pack.specs.declared.State.{State}
use Rattle.registers.specs.Registers.{bit}
use Rattle.rooms.specs.Rooms.{Bytes}
use Rattle.written.specs.Written.{bit_set}

-- what is given beside the state: both sheets, the driver's mark and bytes, and the length of the lent reply room
pub record Call : Type 0 where
  pub service : List ℕ
  pub factory : List ℕ
  pub read : Bool
  pub bytes : List ℕ
  pub room : ℕ

abbrev pub result : State → Call → Transacted State
result s c = transact_of s c.service c.factory c.read c.bytes c.room

abbrev pub answer : State → Call → ℕ
answer s c = transact_answer s c.service c.factory c.read c.bytes c.room

abbrev pub reply : State → Call → List ℕ
reply s c = transact_reply s c.service c.factory c.read c.bytes c.room

-- as a visit to the pack's side of the bus
abbrev pub visit : State → Call → Visit
visit s c = record { side = pack_side s c.service c.factory; read = c.read; bytes = c.bytes; room = c.room }

-- a reader's exchange is what it sent followed by what it heard
abbrev pub exchange : State → Call → List ℕ
exchange s c = c.bytes ++ reply s c

-- a read or a refused call
abbrev pub Idle : State → Call → Type 0
Idle s c = (c.read ≡ true) ⊎ (served (answer s c) ≡ false)

-- a call that reads a command
abbrev pub Reads : Call → ℕ → Type 0
Reads c command = (c.read ≡ true) × (c.bytes ≡ read_bytes 0x16 command)

-- a call that writes a word to it, with or without PEC
abbrev pub Writes : Call → ℕ → ℕ → Type 0
Writes c command word = (c.read ≡ false) × ((checked : Bool) × WriteBytes 0x16 command word checked c.bytes)

-- to a call a command is read only, with that time: a right read is answered 0, where it was cut off 10, and shows its word; a right write is answered 8
abbrev pub ReadsOnly : State → Call → ℕ → Time → Type 0
ReadsOnly s c command t =
    (Reads c command → (answer s c ≡ cond (was_cut_off t) 10 0) × (reply s c ≡ reply_of c.bytes (word_body (time_word t))))
    × ((written : ℕ) → Writes c command written → answer s c ≡ 8)

-- no register but the error bits differs: every word but BatteryStatus, and BatteryStatus but for its low four bits
pub record SameRegisters (s t : State) : Type 0 where
  pub words : (command : ℕ) → (command ≡ 0x16 → ⊥) → word_of t command ≡ word_of s command
  pub status : word_of t 0x16 / 16 ≡ word_of s 0x16 / 16

-- 00, 01, 02 and 04 keep the written word, 03 its bits 13, 14 and 15
abbrev pub kept_word : ℕ → ℕ → ℕ
kept_word command word =
    cond (eqb command 0x03) (bit 13 (bit_set 13 word) + bit 14 (bit_set 14 word) + bit 15 (bit_set 15 word)) word

-- a served read of some command; the struct's fields, the sheets and the command hold what their types let them hold
pub record Exchanged (s : State) (c : Call) : Type 0 where
  pub command : ℕ
  pub reads : Reads c command
  pub is-served : served (answer s c) ≡ true
  pub a_byte : command < 256
  pub fits : PackFits s.pack
  pub service : Bytes c.service
  pub factory : Bytes c.factory
