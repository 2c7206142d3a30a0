-- The laws of a name's escaped form, and its length. Assumes nothing.
use mathlib.Core.Path.{◌≡◌, refl}
use mathlib.Core.Bool.{Bool, true, false, cond}
use mathlib.Core.List.{List, [], ◌∷◌, ◌++◌, append_assoc, append-nil}
use Prim.Native.Nat.{ℕ, ◌+◌, ◌*◌, ◌≤◌, ◌<◌}
use native.Mathlib.Numerals.{add-one}
use native.Mathlib.Omega.{arith}
use lib.ListN.{length, take, get_or, length-append}
use lib.Seq.{take-suc}
use Rattle.names.specs.Names.{marked, escape_byte, escape}

pub escape_append : (s t : List ℕ) → escape (s ++ t) ≡ escape s ++ escape t
escape_append [] t = refl
escape_append (b ∷ s) t = rw (append_assoc, escape_append s t)

pub escape_snoc : (s : List ℕ) (j : ℕ) → j < length s → escape (take (j + 1) s) ≡ escape (take j s) ++ escape_byte (get_or s j 0)
escape_snoc s j h = rw (add-one, take-suc s j 0, escape_append, append-nil)

one_length : (t : Bool) (b : ℕ) → length (cond t (92 ∷ b ∷ []) (b ∷ [])) ≤ 2
one_length true b = omega arith
one_length false b = omega arith

pub escape_length : (s : List ℕ) → length (escape s) ≤ 2 * length s
escape_length [] = omega arith
escape_length (b ∷ s) = rw length-append (omega (arith, one_length (marked b) b, escape_length s))
