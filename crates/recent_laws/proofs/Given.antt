-- The totals that so many currents can give are exactly those between the least and the most.
-- Assumes nothing.
use Prim.Native.Nat.{ℕ, zero, suc, ◌-◌, ◌*◌, ◌≤◌, min}
use mathlib.Core.Bool.{true}
use mathlib.Core.List.{[], ◌∷◌}
use mathlib.Core.Path.{◌≡◌, refl, ap, ap₂, ◌∙◌, sym}
use native.Mathlib.Omega.{arith}
use lib.IntN.{ℤ, pos, negsuc, ◌+ℤ◌, +ℤ_idr}
use mir.Syntax.{w16}
use mir.Val.{SFits}
use Rattle.recent.proofs.Totals.{can_pos, can_neg}
use Rattle.recent.specs.Recent.{can_give}
use Rattle.words.proofs.Integers.{split}
use Rattle.recent_laws.specs.Minute.{total_of}
use Rattle.recent_laws.specs.Promises.{Given, GivenExactly}
use Rattle.recent_laws.proofs.Totals.{total_can}

-- one current more
joined : (ms : ℕ) (c y z : ℤ) → SFits w16 c → c +ℤ y ≡ z → Given ms y → Given (suc ms) z
unfolding total_of
joined ms c y z f e g =
    record {
      currents = c ∷ g.currents;
      many = ap suc g.many;
      fit = (f, g.fit);
      total = ap (λ (x : ℤ). c +ℤ x) g.total ∙ e;
    }

-- one current takes as much as it can
from_zero : (ms n : ℕ) → n ≤ 32767 * ms → Given ms (pos n)
unfolding total_of
from_zero zero n h = record { currents = []; many = refl; fit = tt; total = ap pos (omega arith) }
from_zero (suc ms) n h =
    let c = min n 32767 in
    joined ms (pos c) (pos (n - c)) (pos n) (record { sfits = omega arith }) (ap pos (omega arith)) (from_zero ms (n - c) (omega arith))

below_zero : (ms n : ℕ) → suc n ≤ 32768 * ms → Given ms (negsuc n)
below_zero zero n h = absurd (omega arith)
below_zero (suc ms) n h =
    split n 32768
    (λ l. joined ms (negsuc n) (pos 0) (negsuc n) (record { sfits = omega arith }) (+ℤ_idr (negsuc n)) (from_zero ms 0 (omega arith)))
    (λ l.
    joined ms (negsuc 32767) (negsuc (n - 32768)) (negsuc n) (record { sfits = omega arith }) (ap negsuc (omega arith))
    (below_zero ms (n - 32768) (omega arith)))

reached : (ms : ℕ) (z : ℤ) → can_give ms z ≡ true → Given ms z
reached ms (pos n) h = from_zero ms n (can_pos ms n h)
reached ms (negsuc n) h = below_zero ms n (can_neg ms n h)

back : (ms : ℕ) (z : ℤ) → Given ms z → can_give ms z ≡ true
back ms z g = ap₂ can_give (sym g.many) (sym g.total) ∙ total_can g.currents g.fit

pub given_exactly : GivenExactly
given_exactly ms z = (reached ms z, back ms z)
