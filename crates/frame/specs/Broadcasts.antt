-- Document 01, Clock and broadcasts, and request R-5: a message, with its PEC or plain.
-- Assumes nothing.
use Rattle.std.specs.Prelude.{ℕ, Bool, cond, List, [], ◌∷◌, ◌++◌}
use Rattle.words.specs.Words.{low_of, high_of}
use Rattle.frame.specs.Transactions.{with_pec}
use Rattle.frame.specs.declared.Message.{Message}

-- a word under a command, for an address
abbrev pub message_to : ℕ → ℕ → ℕ → Message
message_to address command word = record { address = address; command = command; word = word }

-- address, command, low, high (RULES 8.1)
abbrev pub message_of : Message → List ℕ
message_of m = m.address ∷ m.command ∷ low_of m.word ∷ high_of m.word ∷ []

-- every message ends in the PEC over its four bytes, unless plain is asked for (RULES 8.7)
abbrev pub sent_as : Bool → Message → List ℕ
sent_as plain m = cond plain (message_of m) (with_pec (message_of m))

-- five bytes in place of four (RULES 8.7)
abbrev pub message_size : Bool → ℕ
message_size plain = cond plain 4 5

-- messages one after another, each with its own PEC (RULES 8.7)
abbrev pub all_sent : Bool → List Message → List ℕ
all_sent plain [] = []
all_sent plain (m ∷ ms) = sent_as plain m ++ all_sent plain ms
