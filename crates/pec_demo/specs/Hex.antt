-- Hex text: digits in either case, two for each byte.
-- Assumes nothing.
use Rattle.std.specs.Prelude.{Bool, cond, ◌&&◌, List, [], ◌∷◌, ℕ, ◌+◌, ◌-◌, ◌*◌, ◌%◌, eqb, leb, length, Option, Some, None, is_some, unwrap_or, Result, Ok, Err}
use Rattle.std.specs.List.{list_all}
use Rattle.pec_demo.specs.declared.Fault.{Fault}
use Rattle.pec_demo.specs.declared.Fault.TheVariants.{NoDigit, OddDigits}

-- the value of a digit: 0 to 9 (30 to 39), A to F (41 to 46), a to f (61 to 66); no other character has one
abbrev pub value_of : ℕ → Option ℕ
value_of c =
    cond (leb 0x30 c && leb c 0x39) (Some (c - 0x30))
    (cond (leb 0x41 c && leb c 0x46) (Some (c - 0x37))
    (cond (leb 0x61 c && leb c 0x66) (Some (c - 0x57)) None))

-- no character but digits
abbrev pub all_digits : List ℕ → Bool
all_digits text = list_all (λ c. is_some (value_of c)) text

-- what is wrong with a text: some character is no digit, else an odd number of digits, else nothing
abbrev pub fault_of : List ℕ → Result (Unit {0}) Fault
fault_of text = cond (all_digits text) (cond (eqb (length text % 2) 1) (Err OddDigits) (Ok tt)) (Err NoDigit)

-- the byte of two characters: one that is no digit counts as 0
abbrev pub byte_of : ℕ → ℕ → ℕ
byte_of high low = unwrap_or (value_of high) 0 * 16 + unwrap_or (value_of low) 0

-- the bytes of a text
unfoldable pub bytes_of : List ℕ → List ℕ
bytes_of [] = []
bytes_of (high ∷ []) = []
bytes_of (high ∷ low ∷ cs) = byte_of high low ∷ bytes_of cs
