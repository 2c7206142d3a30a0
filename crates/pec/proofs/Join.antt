-- The PEC over two pieces is that over the two joined.
-- Assumes nothing.
use mathlib.Core.Path.{◌≡◌, refl}
use mathlib.Core.List.{List, [], ◌∷◌, ◌++◌}
use Prim.Native.Nat.{ℕ}
use lib.Bits.{bit_xor}
use Rattle.pec.specs.Pec.{byte_step, pec_from}

pub join : (acc : ℕ) (xs ys : List ℕ) → pec_from (pec_from acc xs) ys ≡ pec_from acc (xs ++ ys)
unfolding pec_from
join acc [] ys = refl
join acc (x ∷ xs) ys = join (byte_step (bit_xor acc x)) xs ys
