-- Bytes, and bytes put into a lent room.
-- Assumes nothing.
use Rattle.std.specs.Prelude.{ℕ, ◌+◌, ◌-◌, ◌<◌, List, [], ◌∷◌, ◌++◌, length, take, drop}

-- every element is a byte
abbrev pub Bytes : List ℕ → Type 0
Bytes [] = Unit {0}
Bytes (x ∷ xs) = (x < 256) × Bytes xs

-- the bytes from one place to another
abbrev pub between : List ℕ → ℕ → ℕ → List ℕ
between bytes start end = take (end - start) (drop start bytes)

-- the place in memory some bytes further on than another (a block of memory, and a byte in it)
abbrev pub further : ℕ → ℕ × ℕ → ℕ × ℕ
further n place = (place.0, n + place.1)

-- bytes at the front of a room; the rest of the room stays
abbrev pub placed : List ℕ → List ℕ → List ℕ
placed bytes room = bytes ++ drop (length bytes) room
