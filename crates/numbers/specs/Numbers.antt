-- Numbers in bytes: each in so many bytes, its width, the low byte first.
-- Assumes nothing.
use Rattle.std.specs.Prelude.{ℕ, zero, suc, ◌+◌, ◌*◌, ◌/◌, ◌%◌, ◌^◌, ◌<◌, Bool, true, cond, ◌&&◌, List, [], ◌∷◌, ◌++◌, eqb, leb, get_or}

-- the bytes of a number of a width
abbrev pub number_bytes : ℕ → ℕ → List ℕ
number_bytes zero value = []
number_bytes (suc n) value = value % 256 ∷ number_bytes n (value / 256)

-- numbers one after the other, each in its own width
abbrev pub numbers_bytes : List ℕ → List ℕ → List ℕ
numbers_bytes [] values = []
numbers_bytes (n ∷ widths) [] = []
numbers_bytes (n ∷ widths) (v ∷ values) = number_bytes n v ++ numbers_bytes widths values

-- the number of a width that stands at a place
abbrev pub number_at : ℕ → List ℕ → ℕ → ℕ
number_at zero bytes at = 0
number_at (suc n) bytes at = get_or bytes at 0 + 256 * number_at n bytes (suc at)

-- numbers that stand one after the other from a place on
abbrev pub numbers_at : List ℕ → List ℕ → ℕ → List ℕ
numbers_at [] bytes at = []
numbers_at (n ∷ widths) bytes at = number_at n bytes at ∷ numbers_at widths bytes (at + n)

-- the bytes that numbers of these widths take
abbrev pub bytes_taken : List ℕ → ℕ
bytes_taken [] = 0
bytes_taken (n ∷ widths) = n + bytes_taken widths

-- each number is below what its width can hold
abbrev pub Within : List ℕ → List ℕ → Type 0
Within [] [] = Unit {0}
Within [] (v ∷ values) = ⊥
Within (n ∷ widths) [] = ⊥
Within (n ∷ widths) (v ∷ values) = (v < 256 ^ n) × Within widths values

-- ---- flags

-- a flag as a number: 1 for true and 0 for false
abbrev pub flag_of : Bool → ℕ
flag_of b = cond b 1 0

-- and back
abbrev pub flagged : ℕ → Bool
flagged n = eqb n 1

-- each number is that of a flag
abbrev pub flags : List ℕ → Bool
flags [] = true
flags (n ∷ ns) = leb n 1 && flags ns
