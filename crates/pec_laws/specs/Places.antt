-- Messages as bytes and as bits, and where two of them differ.
-- Assumes nothing.
use Rattle.std.specs.Prelude.{Bool, false, List, [], ◌∷◌, ◌≡◌, ℕ, ◌/◌, ◌%◌, eqb, get_or}
use Rattle.std.specs.Int.Bits.{bit_xor}

-- the exclusive or of two messages, byte by byte
unfoldable pub xor_all : List ℕ → List ℕ → List ℕ
xor_all [] ys = []
xor_all (x ∷ xs) [] = []
xor_all (x ∷ xs) (y ∷ ys) = bit_xor x y ∷ xor_all xs ys

-- whether the bit of weight w is set in x
abbrev pub weight_set : ℕ → ℕ → Bool
weight_set w x = eqb (x / w % 2) 1

-- the bits of a message, the high bit of each byte first
unfoldable pub bits_of : List ℕ → List Bool
bits_of [] = []
bits_of (x ∷ xs) = weight_set 128 x ∷ weight_set 64 x ∷ weight_set 32 x ∷ weight_set 16 x ∷ weight_set 8 x ∷ weight_set 4 x ∷ weight_set 2 x ∷ weight_set 1 x ∷ bits_of xs

-- the bit at place i of a message
abbrev pub bit_at : List ℕ → ℕ → Bool
bit_at xs i = get_or (bits_of xs) i false

-- two messages differ at place i
abbrev pub Apart : List ℕ → List ℕ → ℕ → Type 0
Apart xs ys i = bit_at xs i ≡ bit_at ys i → ⊥
