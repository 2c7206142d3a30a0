-- Request R-7: a message of a pack's broadcast, as a driver cuts it out to deliver it.
-- Assumes nothing.
use Rattle.std.specs.Prelude.{ℕ, ◌+◌, Bool, cond, List, [], leb, length, take, drop}
use Rattle.frame.specs.Broadcasts.{message_size}
use Rattle.rooms.specs.Rooms.{further}

-- a whole message starts at this place
abbrev pub is_message : Bool → List ℕ → ℕ → Bool
is_message plain bytes at = leb (at + message_size plain) (length bytes)

-- it is the next five bytes, in plain four; where none starts, no bytes (RULES 14.13)
abbrev pub message_at : Bool → List ℕ → ℕ → List ℕ
message_at plain bytes at = cond (is_message plain bytes at) (take (message_size plain) (drop at bytes)) []

-- where in memory they stand; where none starts, at the front
abbrev pub message_place : Bool → List ℕ → ℕ → ℕ × ℕ → ℕ × ℕ
message_place plain bytes at place = further (cond (is_message plain bytes at) at 0) place
