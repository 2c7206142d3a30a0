-- Which faults the PEC catches, for messages of every length: the theorems of `proofs/Theorems.antt`.
-- Assumes nothing.
use Rattle.std.specs.Prelude.{List, ◌∷◌, ◌++◌, ◌⊎◌, ◌↔◌, ◌≡◌, ℕ, ◌+◌, ◌-◌, ◌%◌, ◌≤◌, ◌<◌, length}
use Rattle.std.specs.Int.Bits.{bit_xor}
use Rattle.pec.specs.Pec.{pec_of}
use Rattle.pec.specs.Messages.{Right, bits_apart}
use Rattle.rooms.specs.Rooms.{Bytes}
use Rattle.pec_laws.specs.Places.{xor_all, Apart}

-- two messages of one length
abbrev pub Pair : List ℕ → List ℕ → Type 0
Pair xs ys = Bytes xs × Bytes ys × (length xs ≡ length ys)

-- two different right messages of one length
abbrev pub Rights : List ℕ → List ℕ → Type 0
Rights xs ys = Pair xs ys × Right xs × Right ys × (xs ≡ ys → ⊥)

-- 1. the PEC of an exclusive or is the exclusive or of the PECs
abbrev pub Linear : Type 0
Linear = (xs ys : List ℕ) → length xs ≡ length ys → pec_of (xor_all xs ys) ≡ bit_xor (pec_of xs) (pec_of ys)

-- 2. a message ends in its right check byte exactly when the PEC of all of it is 0
abbrev pub RightIsNone : Type 0
RightIsNone = (xs : List ℕ) → Bytes xs → 0 < length xs → Right xs ↔ (pec_of xs ≡ 0)

-- 3. two different right messages of one length, up to 15 bytes, differ in at least four bits
abbrev pub FourBits : Type 0
FourBits = (xs ys : List ℕ) → Rights xs ys → length xs ≤ 15 → 4 ≤ bits_apart xs ys

-- 4. of any length, in an even number of bits
abbrev pub EvenBits : Type 0
EvenBits = (xs ys : List ℕ) → Rights xs ys → bits_apart xs ys % 2 ≡ 0

-- never all within eight neighbouring places, k and the seven after it
abbrev pub NoBurst : Type 0
NoBurst = (xs ys : List ℕ) → Rights xs ys → (k : ℕ) → ((i : ℕ) → Apart xs ys i → (k ≤ i) × (i < k + 8)) → ⊥

-- if in only two, these stand a multiple of 127 places apart
abbrev pub TwoBits : Type 0
TwoBits =
    (xs ys : List ℕ) → Rights xs ys → bits_apart xs ys ≡ 2 → (i j : ℕ) → i < j → Apart xs ys i → Apart xs ys j
    → (j - i) % 127 ≡ 0

-- so up to 37 bytes 127 or 254 places
abbrev pub TwoBitsTo37 : Type 0
TwoBitsTo37 =
    (xs ys : List ℕ) → Rights xs ys → length xs ≤ 37 → bits_apart xs ys ≡ 2 → (i j : ℕ) → i < j → Apart xs ys i → Apart xs ys j
    → (j - i ≡ 127) ⊎ (j - i ≡ 254)

-- 5. a right message of up to 15 bytes with one to three bits altered is not right
abbrev pub Caught : Type 0
Caught =
    (xs ys : List ℕ) → Pair xs ys → Right xs → length xs ≤ 15 → 1 ≤ bits_apart xs ys → bits_apart xs ys ≤ 3 → Right ys → ⊥

-- one byte of a right message misheard, the others as they were, and it is not right: at any length
abbrev pub Misheard : Type 0
Misheard =
    (us vs : List ℕ) (x y : ℕ) → Bytes (us ++ x ∷ vs) → Bytes (us ++ y ∷ vs) → Right (us ++ x ∷ vs) → (x ≡ y → ⊥) → Right (us ++ y ∷ vs) → ⊥

-- 6. sharp: up to 15 bytes, a pair that differs in exactly four bits
abbrev pub FourIsSharp : Type 0
FourIsSharp = (xs : List ℕ) × (ys : List ℕ) × Rights xs ys × (length xs ≤ 15) × (bits_apart xs ys ≡ 4)

-- two right messages of n bytes that differ in exactly two bits
abbrev pub TwoApart : ℕ → Type 0
TwoApart n = (xs : List ℕ) × (ys : List ℕ) × Rights xs ys × (length xs ≡ n) × (bits_apart xs ys ≡ 2)

-- of every length from 16 bytes on there are such
abbrev pub FifteenIsSharp : Type 0
FifteenIsSharp = (n : ℕ) → 16 ≤ n → TwoApart n

-- and one that differs within nine neighbouring places
abbrev pub EightIsSharp : Type 0
EightIsSharp =
    (xs : List ℕ) × (ys : List ℕ) × Rights xs ys × (k : ℕ) × ((i : ℕ) → Apart xs ys i → (k ≤ i) × (i < k + 9))
