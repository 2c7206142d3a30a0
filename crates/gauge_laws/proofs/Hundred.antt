-- RelativeStateOfCharge is at most 100 without a cap, and 100 exactly when charge is full; with a cap it and bit 4 were the same.
-- Assumes nothing.
use Prim.Native.Nat.{ℕ, min}
use mathlib.Core.Bool.{Bool, true, false, cond}
use mathlib.Core.Path.{◌≡◌, refl, sym, ap, ◌∙◌}
use borrow.Author.Tests.{eq-eqb, eqb-true, le-leb, lt-leb, leb-true, leb-false}
use native.Mathlib.Omega.{arith}
use lib.Dec.{eqb, leb}
use Rattle.alarms.specs.Alarms.{charge_full}
use Rattle.capacity.proofs.Bounds.{percent_most, percent_full}
use Rattle.capacity.specs.Capacity.{percent_of}
use Rattle.gauge.specs.Word.{given_of}
use Rattle.gauge_laws.proofs.Bits.{digit_set, bits_stand}
use Rattle.gauge_laws.specs.Hundred.{RelativeMost, HundredExactly, HundredShown, RelativeOfBefore, BitOfBefore}
use Rattle.pack.proofs.Soundness.{tank_of_sound, code_of_sound}

pub relative_most : RelativeMost
unfolding given_of
relative_most s h = percent_most s.pack.tank.charge s.pack.tank.full (tank_of_sound s h).charge

pub hundred_exactly : HundredExactly
unfolding given_of
hundred_exactly s h = let f = tank_of_sound s h in percent_full s.pack.tank.charge s.pack.tank.full f.full f.charge

pub hundred_shown : HundredShown
unfolding given_of
hundred_shown s h =
    let k = hundred_exactly s h in
    let b = (bits_stand s.pack s.error (omega (arith, code_of_sound s h))).FULLY_CHARGED in (
      λ e. b ∙ simp (eq-eqb _ _ (k.0 e)),
      λ e. k.1 (eqb-true _ _ (digit_set (charge_full s.pack) (sym b ∙ e))),
    )

pub relative_of_before : RelativeOfBefore
unfolding given_of
relative_of_before s h = omega (arith, relative_most s h)

-- a cap of 100 hides no 20
twenty : (n : ℕ) → leb 20 n ≡ leb 20 (min 100 n)
twenty n = go (leb 20 n) refl
  where
    go : (b : Bool) → leb 20 n ≡ b → b ≡ leb 20 (min 100 n)
    go true e = sym (le-leb 20 (min 100 n) (omega (arith, leb-true 20 n e)))
    go false e = sym (lt-leb 20 (min 100 n) (omega (arith, leb-false 20 n e)))

pub bit_of_before : BitOfBefore
bit_of_before before charge full = ap (λ (b : Bool). cond (eqb charge 0) true (cond b false before)) (twenty (percent_of charge full))
