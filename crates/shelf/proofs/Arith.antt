-- Ratios compared by products.
-- Assumes nothing.
use mathlib.Core.Path.{◌≡◌}
use Prim.Native.Nat.{ℕ, zero, ◌*◌, ◌≤◌, ◌<◌}
use native.Mathlib.Nat.{le_trans, lt_of_lt_of_le, mul-le-mul_right, mul-lt-mul_of_pos_right, le_of_mul-le-mul_right, lt_of_mul-lt-mul_right, mul_assoc, mul_comm}

-- the second and third factor of three change places
swap : (x y z : ℕ) → x * y * z ≡ x * z * y
swap x y z = rw (mul_assoc x y z, mul_comm y z, ← mul_assoc x z y)

-- a ÷ b at most c ÷ d, and c ÷ d at most e ÷ f
pub ratio_le : (a b c d e f : ℕ) → zero < d → a * d ≤ c * b → c * f ≤ e * d → a * f ≤ e * b
ratio_le a b c d e f pd h k =
    le_of_mul-le-mul_right {k = d}
    (rw (swap a f d, swap e b d) (le_trans (rw (swap c b f) at (mul-le-mul_right f h)) (mul-le-mul_right b k)))
    pd

-- a ÷ b below c ÷ d, and c ÷ d at most e ÷ f
pub ratio_lt : (a b c d e f : ℕ) → zero < f → a * d < c * b → c * f ≤ e * d → a * f < e * b
ratio_lt a b c d e f pf h k =
    lt_of_mul-lt-mul_right d
    (rw (swap a f d, swap e b d) (lt_of_lt_of_le (rw (swap c b f) at (mul-lt-mul_of_pos_right h pf)) (mul-le-mul_right b k)))
