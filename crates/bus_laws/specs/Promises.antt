-- What holds of every call of `transact`: the theorems of `proofs/`.
-- Assumes nothing.
use Rattle.std.specs.Prelude.{ℕ, ◌*◌, ◌/◌, ◌%◌, ◌≤◌, ◌<◌, Bool, true, false, cond, List, ◌∷◌, ◌++◌, ◌≡◌, length, get_or}
use Rattle.bus.specs.Transact.{outcome, transact_of, reply_room}
use Rattle.bus_laws.specs.Calls.{Call, result, answer, reply, visit, exchange, Idle, Reads, Writes, ReadsOnly, SameRegisters, kept_word, Exchanged}
use Rattle.bus_laws.specs.Rows.{read_rows, write_rows}
use Rattle.commands.specs.Answers.{code_after, served}
use Rattle.commands.specs.Commands.{kind_of}
use Rattle.commands.specs.Lengths.{Lengths}
use Rattle.commands.specs.declared.Kind.TheVariants.{Optional}
use Rattle.commands_laws.specs.Visits.{visit_body}
use Rattle.frame.specs.Transactions.{read_bytes, reply_of, word_body}
use Rattle.frame_laws.specs.Exchanges.{Accepts, FarApart}
use Rattle.gauge.specs.Word.{word_of}
use Rattle.gauge_laws.specs.Minutes.{is_ten}
use Rattle.pack.specs.Fits.{Fits}
use Rattle.pack.specs.Sound.{sound_of}
use Rattle.pack.specs.declared.State.{State}
use Rattle.pec.specs.Messages.{Right, bits_apart}
use Rattle.pec_laws.specs.Faults.{Pair}
use Rattle.times.specs.Times.{run_time_to_empty, average_time_to_empty, average_time_to_full}
use Rattle.rooms.specs.Rooms.{Bytes}
use Rattle.sheet.specs.Block.{good_sheets}

-- ---- rows

-- a right read is answered by its command's row: 9 for a block with a bad sheet, 10 for 05 in power mode and for a time beyond the range
abbrev pub ReadRow : Type 0
ReadRow =
    (s : State) (c : Call) (command : ℕ) → command < 256 → sound_of s ≡ true → 34 ≤ c.room → Reads c command
    → answer s c ≡ get_or (read_rows (λ n. cond (is_ten s.pack n) 10 0) (cond (good_sheets c.service c.factory) 0 9)) command 0

-- a right write is answered by its command's row, whatever the word
abbrev pub WriteRow : Type 0
WriteRow =
    (s : State) (c : Call) (command word : ℕ) → command < 256 → sound_of s ≡ true → 34 ≤ c.room → Writes c command word
    → answer s c ≡ get_or write_rows command 0

-- a right read is answered 10 exactly when it is 05 in power mode, or one of 05, 06, 11, 12 and 13 is beyond the range
abbrev pub TenAnswered : Type 0
TenAnswered =
    (s : State) (c : Call) (command : ℕ) → sound_of s ≡ true → 34 ≤ c.room → Reads c command
    → (answer s c ≡ 10 → is_ten s.pack command ≡ true) × (is_ten s.pack command ≡ true → answer s c ≡ 10)

-- ---- wrong readings shut out

-- 11 to 13 are the pack's own times, and no commands of a charger
abbrev pub NoChargerCommands : Type 0
NoChargerCommands =
    (s : State) (c : Call) → sound_of s ≡ true → 34 ≤ c.room
    → ReadsOnly s c 0x11 (run_time_to_empty s.pack) × ReadsOnly s c 0x12 (average_time_to_empty s.pack) × ReadsOnly s c 0x13 (average_time_to_full s.pack)

-- what is sent to any other address, the charger's 0x12 among them, is answered 3
abbrev pub OtherAddresses : Type 0
OtherAddresses =
    (s : State) (c : Call) (address : ℕ) (rest : List ℕ) → sound_of s ≡ true → 34 ≤ c.room
    → c.bytes ≡ address ∷ rest → (address ≡ 0x16 → ⊥) → answer s c ≡ 3

-- ---- replies and exchanges

-- a served read of a command is replied to with its body and the PEC over request and body
abbrev pub PackReplied : Type 0
PackReplied =
    (s : State) (c : Call) (command : ℕ) → Reads c command → served (answer s c) ≡ true
    → reply s c ≡ reply_of c.bytes (visit_body (visit s c) command)

-- request followed by reply is right
abbrev pub PackPasses : Type 0
PackPasses = (s : State) (c : Call) (command : ℕ) → Reads c command → served (answer s c) ≡ true → Right (exchange s c)

-- and the exchange check accepts it
abbrev pub PackAccepted : Type 0
PackAccepted = (s : State) (c : Call) (command : ℕ) → Reads c command → served (answer s c) ≡ true → Accepts (exchange s c)

-- it has the length of the command's row; no optional command is served
abbrev pub PackLength : Type 0
PackLength =
    (s : State) (c : Call) (command : ℕ) → Reads c command → served (answer s c) ≡ true
    → (kind_of command ≡ Optional → ⊥) × Lengths (kind_of command) (length (exchange s c))

-- two different exchanges of one length
abbrev pub PackApart : Type 0
PackApart =
    (s t : State) (c d : Call) → Exchanged s c → Exchanged t d → length (exchange s c) ≡ length (exchange t d) → (exchange s c ≡ exchange t d → ⊥)
    → FarApart (exchange s c) (exchange t d)

-- a command misheard by the pack shows up: what the reader sent followed by what it heard isn't right
abbrev pub PackMisheard : Type 0
PackMisheard =
    (s : State) (c : Call) (x : Exchanged s c) (sent : ℕ) → sent < 256 → (sent ≡ x.command → ⊥) → Right (read_bytes 0x16 sent ++ reply s c) → ⊥

-- ---- what a call leaves

-- a refusal changes nothing but the error code, and that as the table says; its number of reply bytes is 0
abbrev pub RefusedCall : Type 0
RefusedCall = (s : State) (c : Call) → served (answer s c) ≡ false → result s c ≡ outcome s (answer s c) s.pack 0

-- it writes no lent byte
abbrev pub RefusedRoom : Type 0
RefusedRoom =
    (s : State) (service factory : List ℕ) (read : Bool) (bytes room : List ℕ)
    → served (answer s (record { service = service; factory = factory; read = read; bytes = bytes; room = length room })) ≡ false
    → reply_room s service factory read bytes room ≡ room

-- the error code is the table's, whatever the call
abbrev pub CodeLeft : Type 0
CodeLeft = (s : State) (c : Call) → (result s c).state.error ≡ code_after (answer s c) s.error

-- a read or a refused call changes nothing but the error code
abbrev pub IdleKeeps : Type 0
IdleKeeps = (s : State) (c : Call) → Idle s c → (result s c).state.pack ≡ s.pack

-- after it every word reads as before, but for the low four bits of 16
abbrev pub IdleRegisters : Type 0
IdleRegisters = (s : State) (c : Call) → Idle s c → SameRegisters s (result s c).state

-- every call on a sound state leaves a sound state
abbrev pub SoundStays : Type 0
SoundStays = (s : State) (c : Call) → sound_of s ≡ true → sound_of (result s c).state ≡ true

-- every call leaves fields that hold what their types let them hold
abbrev pub FitsStays : Type 0
FitsStays = (s : State) (c : Call) → Fits s → Bytes c.bytes → Fits (result s c).state

-- a BatteryStatus read shows the code before it, in the low four bits
abbrev pub StatusShows : Type 0
StatusShows =
    (s : State) (c : Call) → sound_of s ≡ true → 34 ≤ c.room → Reads c 0x16
    → (reply s c ≡ reply_of c.bytes (word_body (word_of s 0x16))) × (word_of s 0x16 % 16 ≡ s.error)

-- and leaves 0
abbrev pub StatusLeaves : Type 0
StatusLeaves =
    (s : State) (c : Call) → sound_of s ≡ true → 34 ≤ c.room → Reads c 0x16 → (result s c).state ≡ record { error = 0; pack = s.pack }

-- after answer 10 it shows 5, and leaves 0
abbrev pub TenShows : Type 0
TenShows =
    (s : State) (c : Call) (t : State) (d : Call) → answer s c ≡ 10 → t ≡ (result s c).state → 34 ≤ d.room → Reads d 0x16
    → (reply t d ≡ reply_of d.bytes (word_body (word_of t 0x16))) × (word_of t 0x16 % 16 ≡ 5) × ((result t d).state ≡ record { error = 0; pack = t.pack })

-- a right five-byte write altered in one to three bits, on any state and room, keeps the pack
abbrev pub AlteredKeeps : Type 0
AlteredKeeps =
    (s : State) (service factory sent heard : List ℕ) (room : ℕ)
    → Pair sent heard → Right sent → length sent ≡ 5 → 1 ≤ bits_apart sent heard → bits_apart sent heard ≤ 3
    → (transact_of s service factory false heard room).state.pack ≡ s.pack

-- so it changes no register but the error bits
abbrev pub AlteredRegisters : Type 0
AlteredRegisters =
    (s : State) (service factory sent heard : List ℕ) (room : ℕ)
    → Pair sent heard → Right sent → length sent ≡ 5 → 1 ≤ bits_apart sent heard → bits_apart sent heard ≤ 3
    → SameRegisters s (transact_of s service factory false heard room).state

-- ---- what is written is read back

-- a served write, and a read of that command while the pack is as the write left it: it is served, and shows the kept word
abbrev pub WrittenRead : Type 0
WrittenRead =
    (s : State) (w : Call) (t : State) (r : Call) (command word : ℕ) → Writes w command word → served (answer s w) ≡ true
    → sound_of t ≡ true → t.pack ≡ (result s w).state.pack → Reads r command → 34 ≤ r.room
    → reply t r ≡ reply_of r.bytes (word_body (kept_word command word))

-- of 03 bits 13, 14 and 15
abbrev pub ThreeBits : Type 0
ThreeBits = (word : ℕ) → word < 65536 → kept_word 0x03 word ≡ word / 8192 * 8192

-- a write leaves the others of 00 to 04 as they were, taken or refused
abbrev pub OthersStay : Type 0
OthersStay =
    (s : State) (c : Call) (written word command : ℕ) → Writes c written word → command ≤ 4 → (command ≡ written → ⊥)
    → word_of (result s c).state command ≡ word_of s command

-- so a mode change doesn't convert what the host wrote
abbrev pub ModeConvertsNothing : Type 0
ModeConvertsNothing =
    (s : State) (c : Call) (word command : ℕ) → Writes c 0x03 word → command ≤ 4 → (command ≡ 0x03 → ⊥)
    → word_of (result s c).state command ≡ word_of s command
