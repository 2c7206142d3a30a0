-- A list of values at each place, and the law that carries the table's rule from the one test to each entry.
-- Assumes nothing.
use mathlib.Core.Path.{◌≡◌, refl, ap, ◌∙◌}
use mathlib.Core.List.{List}
use Prim.Native.Nat.{ℕ, zero, suc, ◌<◌}
use native.Mathlib.Nat.{le_of_suc-le-suc, not-suc-le-zero}
use lib.ListN.{get_or}
use Rattle.pec.specs.Pec.{byte_step}
use Rattle.pec.specs.Table.{values_below, TestedRemainders, Remainders}

-- each of the values listed is the value at its place
pub value_at : (f : ℕ → ℕ) (n k : ℕ) → k < n → get_or (values_below n f) k 0 ≡ f k
value_at f zero k h = absurd (not-suc-le-zero h)
value_at f (suc n) zero h = refl
value_at f (suc n) (suc k) h = value_at (λ k. f (suc k)) n k (le_of_suc-le-suc h)

-- the one test says the rule of each entry
pub carried : (table : List ℕ) → TestedRemainders table → Remainders table
carried table tested b h = ap (λ (l : List ℕ). get_or l b 0) tested ∙ value_at byte_step 256 b h
