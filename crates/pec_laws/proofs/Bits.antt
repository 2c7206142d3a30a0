-- The PEC bit by bit: `crc s bs` is what stands after the bits bs, high bit first, from s.
-- Assumes nothing.
use mathlib.Core.Path.{◌≡◌, refl, sym, ap, ◌∙◌}
use mathlib.Core.Bool.{Bool, true, false}
use mathlib.Core.List.{List, [], ◌∷◌, ◌++◌}
use Prim.Native.Nat.{ℕ, suc, ◌+◌, ◌<◌}
use native.Mathlib.Omega.{arith}
use lib.ListN.{length}
use lib.Bits.{bit_xor, xor_zero_r}
use lib.Count.{ones}
use Rattle.pec.specs.Pec.{bit_step, byte_step, pec_from}
use Rattle.pec.proofs.Bounds.{bit_step_lt}
use Rattle.rooms.specs.Rooms.{Bytes}
use Rattle.pec_laws.specs.Places.{weight_set, bits_of}
use Rattle.pec_laws.proofs.Xor.{bit_step_xor, byte_step_xor, xor_assoc}
use Rattle.pec_laws.proofs.Every.{same_each}
use Rattle.pec_laws.proofs.Orbit.{run}

abbrev pub push : Bool → ℕ → ℕ
push true s = bit_step (bit_xor s 128)
push false s = bit_step s

abbrev pub crc : ℕ → List Bool → ℕ
crc s [] = s
crc s (b ∷ bs) = crc (push b s) bs

-- how many of the bits are set
abbrev pub weight : List Bool → ℕ
weight [] = 0
weight (true ∷ bs) = suc (weight bs)
weight (false ∷ bs) = weight bs

-- the bits of one byte
abbrev pub byte : ℕ → List Bool
byte x = weight_set 128 x ∷ weight_set 64 x ∷ weight_set 32 x ∷ weight_set 16 x ∷ weight_set 8 x ∷ weight_set 4 x ∷ weight_set 2 x ∷ weight_set 1 x ∷ []

-- ---- bounds

pub push_lt : (b : Bool) (s : ℕ) → push b s < 256
push_lt true s = bit_step_lt (bit_xor s 128)
push_lt false s = bit_step_lt s

-- ---- bits and bytes

push_xor : (b : Bool) (s t : ℕ) → push b (bit_xor s t) ≡ bit_xor (bit_step s) (push b t)
push_xor true s t = ap bit_step (xor_assoc s t 128) ∙ bit_step_xor s (bit_xor t 128)
push_xor false s t = bit_step_xor s t

crc_xor : (bs : List Bool) (s t : ℕ) → crc (bit_xor s t) bs ≡ bit_xor (run (length bs) s) (crc t bs)
crc_xor [] s t = refl
crc_xor (b ∷ bs) s t = ap (λ (x : ℕ). crc x bs) (push_xor b s t) ∙ crc_xor bs (bit_step s) (push b t)

crc_append : (s : ℕ) (us bs : List Bool) → crc s (us ++ bs) ≡ crc (crc s us) bs
crc_append s [] bs = refl
crc_append s (a ∷ us) bs = crc_append (push a s) us bs

byte_zero : (x : ℕ) → x < 256 → crc 0 (byte x) ≡ byte_step x
unfolding bit_step byte_step
byte_zero = same_each (λ x. crc 0 (byte x)) byte_step 256 tt

crc_byte : (s x : ℕ) → x < 256 → crc s (byte x) ≡ byte_step (bit_xor s x)
unfolding byte_step
crc_byte s x h =
    ap (λ (t : ℕ). crc t (byte x)) (sym (xor_zero_r s)) ∙ crc_xor (byte x) s 0
    ∙ ap (bit_xor (byte_step s)) (byte_zero x h) ∙ sym (byte_step_xor s x)

pub pec_bits : (s : ℕ) (xs : List ℕ) → Bytes xs → pec_from s xs ≡ crc s (bits_of xs)
unfolding pec_from bits_of
pec_bits s [] h = refl
pec_bits s (x ∷ xs) h =
    pec_bits (byte_step (bit_xor s x)) xs h.1 ∙ ap (λ (t : ℕ). crc t (bits_of xs)) (sym (crc_byte s x h.0))

pub weight_append : (us bs : List Bool) → weight (us ++ bs) ≡ weight us + weight bs
weight_append [] bs = omega arith
weight_append (true ∷ us) bs = omega (arith, weight_append us bs)
weight_append (false ∷ us) bs = weight_append us bs

pub ones_byte : (x : ℕ) → x < 256 → ones x ≡ weight (byte x)
unfolding ones
ones_byte = same_each ones (λ x. weight (byte x)) 256 tt
