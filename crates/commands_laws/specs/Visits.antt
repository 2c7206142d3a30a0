-- A transaction with any side of the bus, at any address, with any table of commands and whatever it shows: the theorems of `proofs/Visits.antt`.
-- Assumes nothing.
use Rattle.std.specs.Prelude.{ℕ, ◌≤◌, ◌<◌, Bool, true, false, cond, List, ◌∷◌, ◌++◌, ◌≡◌, length, get_or}
use Rattle.commands.specs.Answers.{Side, read_answer, write_answer, bare, served, side_answer, read_body, side_reply}
use Rattle.commands.specs.Lengths.{Lengths}
use Rattle.commands.specs.declared.Kind.TheVariants.{Block, Optional}
use Rattle.frame.specs.Transactions.{request_of, read_bytes, reply_of}
use Rattle.frame.specs.declared.Request.{Request}
use Rattle.frame_laws.specs.Exchanges.{Accepts, FarApart}
use Rattle.frame_laws.specs.Requests.{WriteBytes}
use Rattle.pec.specs.Table.{values_below}
use Rattle.pec.specs.Messages.{Right}
use Rattle.rooms.specs.Rooms.{Bytes}

-- a side as it is, the driver's mark and bytes, and the length of the lent reply room
pub record Visit : Type 0 where
  pub side : Side
  pub read : Bool
  pub bytes : List ℕ
  pub room : ℕ

abbrev pub visit_asked : Visit → Request
visit_asked v = request_of v.side.address v.read v.bytes

abbrev pub visit_answer : Visit → ℕ
visit_answer v = side_answer v.side (visit_asked v) v.room

abbrev pub visit_reply : Visit → List ℕ
visit_reply v = side_reply v.side v.bytes (visit_asked v) (visit_answer v)

-- what a read of a command shows
abbrev pub visit_body : Visit → ℕ → List ℕ
visit_body v command = read_body v.side command (v.side.kinds command)

-- a reader's exchange is what it sent followed by what it heard
abbrev pub visit_exchange : Visit → List ℕ
visit_exchange v = v.bytes ++ visit_reply v

-- the answer is past 1 and 2
abbrev pub Heard : Visit → Type 0
Heard v = (v.side.sound ≡ true) × (v.side.least ≤ v.room)

-- it reads a command
abbrev pub VisitReads : Visit → ℕ → Type 0
VisitReads v command = (v.read ≡ true) × (v.bytes ≡ read_bytes v.side.address command)

-- it writes a word to it, with or without PEC
abbrev pub VisitWrites : Visit → ℕ → ℕ → Bool → Type 0
VisitWrites v command word checked = (v.read ≡ false) × WriteBytes v.side.address command word checked v.bytes

-- a served visit was heard
abbrev pub ServedHeard : Type 0
ServedHeard = (v : Visit) → served (visit_answer v) ≡ true → Heard v

-- ---- rows

-- a right read is answered by its command's row
abbrev pub ReadByRow : Type 0
ReadByRow =
    (v : Visit) (command : ℕ) → Heard v → VisitReads v command → visit_answer v ≡ read_answer v.side command (v.side.kinds command)

-- so is a right write, whatever the word; a bare one is answered 4
abbrev pub WriteByRow : Type 0
WriteByRow =
    (v : Visit) (command word : ℕ) (checked : Bool) → Heard v → VisitWrites v command word checked
    → visit_answer v ≡ cond (bare v.side checked) 4 (write_answer (v.side.kinds command))

-- with the 256 answers of a table computed, each command's is the one at its place
abbrev pub ReadInRows : Type 0
ReadInRows =
    (v : Visit) (command : ℕ) (rows : List ℕ) → values_below 256 (λ n. read_answer v.side n (v.side.kinds n)) ≡ rows
    → command < 256 → Heard v → VisitReads v command → visit_answer v ≡ get_or rows command 0

abbrev pub WriteInRows : Type 0
WriteInRows =
    (v : Visit) (command word : ℕ) (checked : Bool) (rows : List ℕ) → values_below 256 (λ n. write_answer (v.side.kinds n)) ≡ rows
    → command < 256 → Heard v → VisitWrites v command word checked → visit_answer v ≡ cond (bare v.side checked) 4 (get_or rows command 0)

-- what is sent to another address is answered 3
abbrev pub OtherAddress : Type 0
OtherAddress =
    (v : Visit) (other : ℕ) (rest : List ℕ) → Heard v → v.bytes ≡ other ∷ rest → (other ≡ v.side.address → ⊥) → visit_answer v ≡ 3

-- ---- served replies

-- a served read is replied to with its body and the PEC over request and body
abbrev pub ServedReply : Type 0
ServedReply =
    (v : Visit) (command : ℕ) → VisitReads v command → served (visit_answer v) ≡ true
    → visit_reply v ≡ reply_of v.bytes (visit_body v command)

-- request followed by reply is right
abbrev pub ExchangePasses : Type 0
ExchangePasses = (v : Visit) (command : ℕ) → VisitReads v command → served (visit_answer v) ≡ true → Right (visit_exchange v)

-- where the row is a block, what is shown of it has 1 to 33 bytes: a count and up to 32 bytes, or bytes alone
abbrev pub BlockFits : Side → ℕ → Type 0
BlockFits d command = d.kinds command ≡ Block → (1 ≤ length (d.block command)) × (length (d.block command) ≤ 33)

-- it has the length of the command's row, and no optional command is served
abbrev pub ExchangeLength : Type 0
ExchangeLength =
    (v : Visit) (command : ℕ) → VisitReads v command → served (visit_answer v) ≡ true → BlockFits v.side command
    → (v.side.kinds command ≡ Optional → ⊥) × Lengths (v.side.kinds command) (length (visit_exchange v))

-- and the exchange check accepts it
abbrev pub ExchangeAccepted : Type 0
ExchangeAccepted =
    (v : Visit) (command : ℕ) → VisitReads v command → served (visit_answer v) ≡ true → BlockFits v.side command → Accepts (visit_exchange v)

-- ---- exchanges

-- a served read of some command; address, command, word and block are what their types let them be
pub record VisitExchanged (v : Visit) : Type 0 where
  pub command : ℕ
  pub reads : VisitReads v command
  pub is-served : served (visit_answer v) ≡ true
  pub address : v.side.address < 255
  pub a_byte : command < 256
  pub word : v.side.word command < 65536
  pub block : Bytes (v.side.block command)

-- two different exchanges of one length
abbrev pub ExchangesApart : Type 0
ExchangesApart =
    (v w : Visit) → VisitExchanged v → VisitExchanged w → length (visit_exchange v) ≡ length (visit_exchange w) → (visit_exchange v ≡ visit_exchange w → ⊥)
    → FarApart (visit_exchange v) (visit_exchange w)

-- the reader sent one command and another was heard: what it sent followed by what it heard isn't right
abbrev pub VisitMisheard : Type 0
VisitMisheard =
    (v : Visit) (x : VisitExchanged v) (sent : ℕ) → sent < 256 → (sent ≡ x.command → ⊥) → Right (read_bytes v.side.address sent ++ visit_reply v) → ⊥
