-- Integers as differences of natural numbers, quotients, and 16-bit words.
-- Assumes nothing.
use Rattle.std.proofs.Common.{◌≡◌, ℕ, zero, suc, ◌-◌, ◌*◌, ◌/◌, ◌<◌, ◌≤◌, pos, negsuc, neg_ℤ, mul_comm, arith, w16, of_z, le-ltb, lt-ltb}
use native.Mathlib.Nat.{div-le_of_le-mul}
use lib.IntN.{sub_ℕ}

-- a difference below 0, and one of 0 or above
pub sub_lt : (x y : ℕ) → x < y → sub_ℕ x y ≡ negsuc (y - suc x)
sub_lt x y h = simp (lt-ltb x y h)

pub sub_ge : (x y : ℕ) → y ≤ x → sub_ℕ x y ≡ pos (x - y)
sub_ge x y h = simp (le-ltb x y h)

-- a sum of n numbers, over n
pub over : (most x n : ℕ) → x ≤ most * n → x / n ≤ most
over most x n h = div-le_of_le-mul n (omega (arith, mul_comm most n))

-- minus m as a word
pub minus : (m : ℕ) → 0 < m → 65536 - m ≡ of_z w16 (neg_ℤ (pos m))
minus zero h = absurd (omega arith)
minus (suc k) h = omega arith
