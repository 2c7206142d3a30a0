-- Document 01, PEC: the exchange check and the bit comparison.
-- Assumes nothing.
use Rattle.std.specs.Prelude.{Bool, true, cond, ◌||◌, not, List, [], ◌∷◌, ◌≡◌, ℕ, ◌+◌, ◌-◌, ◌<◌, eqb, ltb, length, take, get_or, Result, Ok, Err}
use Rattle.std.specs.Int.Bits.{bit_xor}
use Rattle.std.specs.Int.Count.{ones}
use Rattle.pec.specs.Pec.{pec_of}
use Rattle.refusals.specs.declared.Refusal.{Refusal}
use Rattle.refusals.specs.declared.Refusal.TheVariants.{WrongLength}

-- the last byte is the PEC of those before it (RULES 4.4)
unfoldable pub ends_in_pec : List ℕ → Bool
ends_in_pec xs = eqb (get_or xs (length xs - 1) 0) (pec_of (take (length xs - 1) xs))

-- a right message: it has a last byte, and that is the PEC of those before it
abbrev pub Right : List ℕ → Type 0
Right xs = (0 < length xs) × (ends_in_pec xs ≡ true)

-- the exchange check: 15 outside 2 to 37 bytes, else right or wrong (RULES 1.15, 4.4)
abbrev pub exchange_check : List ℕ → Result Bool Refusal
exchange_check xs = cond (ltb (length xs) 2 || ltb 37 (length xs)) (Err WrongLength) (Ok (ends_in_pec xs))

-- in how many bits two messages differ: the ones of the exclusive or, byte by byte, summed (RULES 4.5)
unfoldable pub bits_apart : List ℕ → List ℕ → ℕ
bits_apart [] ys = 0
bits_apart (x ∷ xs) [] = 0
bits_apart (x ∷ xs) (y ∷ ys) = ones (bit_xor x y) + bits_apart xs ys

-- the bit comparison: 15 for unequal lengths or over 37 bytes, else the count (RULES 1.15, 4.5)
abbrev pub bit_comparison : List ℕ → List ℕ → Result ℕ Refusal
bit_comparison xs ys = cond (not (eqb (length xs) (length ys)) || ltb 37 (length xs)) (Err WrongLength) (Ok (bits_apart xs ys))
