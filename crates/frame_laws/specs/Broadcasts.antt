-- Request R-5: broadcast messages, with their PEC and plain: the theorems of `proofs/Broadcasts.antt`.
-- Assumes nothing.
use Rattle.std.specs.Prelude.{ℕ, ◌*◌, ◌≤◌, ◌<◌, Bool, true, false, List, [], ◌∷◌, ◌≡◌, length, get_or, take, drop}
use Rattle.pec.specs.Messages.{Right, bits_apart}
use Rattle.rooms.specs.Rooms.{Bytes}
use Rattle.frame.specs.Broadcasts.{sent_as, message_size, all_sent}
use Rattle.frame.specs.declared.Message.{Message}

-- a message's fields hold what their types let them hold
pub record MessageFits (m : Message) : Type 0 where
  pub address : m.address < 256
  pub command : m.command < 256
  pub word : m.word < 65536

-- so of every message of a list
abbrev pub AllFit : List Message → Type 0
AllFit [] = Unit {0}
AllFit (m ∷ ms) = MessageFits m × AllFit ms

-- each message stands by itself, all of one size: the one at place k starts k sizes on
abbrev pub MessageAt : Type 0
MessageAt =
    (plain : Bool) (ms : List Message) (k : ℕ) (none : Message) → k < length ms
    → take (message_size plain) (drop (message_size plain * k) (all_sent plain ms)) ≡ sent_as plain (get_or ms k none)

-- each message with its PEC is right
abbrev pub MessageRight : Type 0
MessageRight = (m : Message) → Right (sent_as false m)

-- two different messages are different bytes, with PEC and in plain
abbrev pub MessagesTell : Type 0
MessagesTell = (plain : Bool) (m n : Message) → sent_as plain m ≡ sent_as plain n → m ≡ n

-- and up to four of them in a row, in either form, are told by their bytes
abbrev pub RowsTell : Type 0
RowsTell =
    (a b : Bool) (ms ns : List Message) → length ms ≤ 4 → length ns ≤ 4 → all_sent a ms ≡ all_sent b ns → ms ≡ ns

-- with PEC two different messages differ in at least four bits
abbrev pub TwoMessages : Type 0
TwoMessages =
    (m n : Message) → MessageFits m → MessageFits n → (m ≡ n → ⊥) → 4 ≤ bits_apart (sent_as false m) (sent_as false n)

-- and one altered in one to three bits isn't right
abbrev pub MessageAltered : Type 0
MessageAltered =
    (m : Message) (heard : List ℕ) → MessageFits m → Bytes heard → length heard ≡ 5
    → 1 ≤ bits_apart (sent_as false m) heard → bits_apart (sent_as false m) heard ≤ 3 → Right heard → ⊥

-- the PEC taken off: of every five bytes the fifth is left out
abbrev pub without_pec : List ℕ → List ℕ
without_pec [] = []
without_pec (address ∷ []) = address ∷ []
without_pec (address ∷ command ∷ []) = address ∷ command ∷ []
without_pec (address ∷ command ∷ low ∷ []) = address ∷ command ∷ low ∷ []
without_pec (address ∷ command ∷ low ∷ high ∷ []) = address ∷ command ∷ low ∷ high ∷ []
without_pec (address ∷ command ∷ low ∷ high ∷ check ∷ rest) = address ∷ command ∷ low ∷ high ∷ without_pec rest

-- it gives exactly the plain messages
abbrev pub PecOff : Type 0
PecOff = (ms : List Message) → without_pec (all_sent false ms) ≡ all_sent true ms
