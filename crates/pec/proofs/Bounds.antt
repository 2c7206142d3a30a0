-- What the steps give is a byte.
-- Assumes nothing.
use mathlib.Core.List.{List, [], ◌∷◌}
use Prim.Native.Nat.{ℕ, ◌*◌, ◌/◌, ◌%◌, ◌<◌}
use native.Mathlib.Nat.{mod-lt, zero-lt-suc}
use native.Mathlib.Omega.{arith}
use lib.Dec.{lit<}
use lib.Bits.{bit_xor, xor_lt}
use Rattle.pec.specs.Pec.{bit_step, byte_step, pec_from, pec_of}

pub bit_step_lt : (s : ℕ) → bit_step s < 256
unfolding bit_step
bit_step_lt s = xor_lt 8 (s * 2 % 256) _ (mod-lt (s * 2) (lit< tt)) (omega (arith, mod-lt (s / 128) (zero-lt-suc 1)))

pub byte_step_lt : (s : ℕ) → byte_step s < 256
unfolding byte_step
byte_step_lt s = bit_step_lt _

pub pec_from_lt : (s : ℕ) (xs : List ℕ) → s < 256 → pec_from s xs < 256
unfolding pec_from
pec_from_lt s [] h = h
pec_from_lt s (x ∷ xs) h = pec_from_lt (byte_step (bit_xor s x)) xs (byte_step_lt (bit_xor s x))

pub pec_lt : (xs : List ℕ) → pec_of xs < 256
unfolding pec_of
pec_lt xs = pec_from_lt 0 xs (lit< tt)
