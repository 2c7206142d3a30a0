-- The one chosen of two, and bounds of the rules of capacity: charge up to full never shows above full.
-- Assumes nothing.
use Prim.Native.Nat.{ℕ, ◌*◌, ◌/◌, ◌≤◌, ◌<◌}
use mathlib.Core.Bool.{Bool, true, false, cond}
use mathlib.Core.Logic.{◌↔◌}
use mathlib.Core.Path.{◌≡◌, refl, ap, ◌∙◌}
use native.Mathlib.Omega.{arith}
use native.Mathlib.Decide.{dec_lt}
use native.Mathlib.Nat.{div-le_of_le-mul, div-lt_iff_lt-mul, mul-div_cancel, mul-le-mul_right}
use Rattle.capacity.specs.Capacity.{power_of, energy_of, milliamp_ms, percent_of}

-- what holds of both holds of the one chosen
pub either : {A : Type 0} (P : A → Type 0) (b : Bool) (x y : A) → P x → P y → P (cond b x y)
either P true x y f g = f
either P false x y f g = g

-- two that are one are it, whichever is chosen
pub alike : {A : Type 0} (b : Bool) (x : A) → cond b x x ≡ x
alike b x = either (λ y. y ≡ x) b x x refl refl

-- what a function gives of the one chosen is the one chosen of what it gives
pub chosen : {A B : Type 0} (f : A → B) (b : Bool) (x y : A) → f (cond b x y) ≡ cond b (f x) (f y)
chosen f true x y = refl
chosen f false x y = refl

pub at_most : (b : Bool) (x y most : ℕ) → x ≤ most → y ≤ most → cond b x y ≤ most
at_most b x y most = either (λ n. n ≤ most) b x y

-- in whole mAh, charge up to full shows at most full
pub m_ah_most : (charge full : ℕ) → charge ≤ milliamp_ms full → charge / 3600000 ≤ full
m_ah_most charge full h = omega arith

-- in 10 mWh, charge up to full shows at most full's, and so it does capped
pub energy_most : (charge full voltage : ℕ) → charge ≤ milliamp_ms full → energy_of charge voltage ≤ power_of full voltage
energy_most charge full voltage h = omega (arith, mul-le-mul_right voltage h)

-- in percent, charge up to full shows at most 100
pub percent_most : (charge full : ℕ) → charge ≤ milliamp_ms full → percent_of charge full ≤ 100
percent_most charge full h = div-le_of_le-mul (milliamp_ms full) (omega arith)

-- and 100 exactly at full
pub percent_full : (charge full : ℕ) → 0 < full → charge ≤ milliamp_ms full → (percent_of charge full ≡ 100) ↔ (charge ≡ milliamp_ms full)
percent_full charge full h l = (λ e. go e (dec_lt charge top), λ e. ap (λ (n : ℕ). 100 * n / top) e ∙ mul-div_cancel 100 some)
  where
    top : ℕ
    top = milliamp_ms full

    some : 0 < top
    some = omega (arith, h)

    go : percent_of charge full ≡ 100 → Dec (charge < top) → charge ≡ top
    go e (yes b) = absurd (omega (arith, e, (div-lt_iff_lt-mul {k = top} {x = 100 * charge} {y = 100} some).1 (omega arith)))
    go e (no n) = omega (arith, l, n)
