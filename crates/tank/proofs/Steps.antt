-- What a sample leaves of charge and full, by what the run sees of it.
-- Assumes nothing.
use Prim.Native.Nat.{ℕ, ◌+◌, ◌/◌, ◌<◌, ◌≤◌}
use mathlib.Core.Bool.{Bool, true, false, cond, not, ◌&&◌, and-eq-true_iff, and-false}
use mathlib.Core.Path.{◌≡◌, refl, sym, ap, ◌∙◌}
use native.Mathlib.Nat.{div-eq_of_lt, mod-eq_of_lt}
use native.Mathlib.Omega.{arith}
use borrow.Author.Tests.{ne_eqb, ltb-true, lt-leb}
use lib.Dec.{eqb, ltb}
use Rattle.capacity.specs.Capacity.{milliamp_ms}
use Rattle.cycles.specs.Cycles.{drawn_by}
use Rattle.learning.proofs.Steps as law
use Rattle.learning.specs.Learning.{learned}
use Rattle.pack.specs.Discharge.{discharge_ends}
use Rattle.pack.specs.Facts.{TankFacts, RunFacts}
use Rattle.pack.specs.declared.Latest.{Latest}
use Rattle.pack.specs.declared.Settings.{Settings}
use Rattle.pack.specs.declared.Tank.{Tank}
use Rattle.tank.specs.Charge.{charge_after}
use Rattle.tank.specs.Tank.{charge_moved, seen_of, closed, tank_after}
use Rattle.words.specs.Words.{above, below}

-- above 0 isn't below 0
above_below : (w : ℕ) → above w ≡ true → below w ≡ false
above_below w h = lt-leb 32768 w (ltb-true w 32768 ((and-eq-true_iff (ltb 0 w) (ltb w 32768)).0 h).1)

-- current above 0 doesn't end the discharge
pub rises_on : (voltage current limit : ℕ) → above current ≡ true → discharge_ends voltage current limit ≡ false
rises_on voltage current limit h = simp (above_below current h)

-- where nothing flows the charge stays
nothing_flows : (charge full elapsed : ℕ) → charge ≤ milliamp_ms full → charge_after charge full 0 elapsed ≡ charge
nothing_flows charge full elapsed h = omega arith

close_full : (o l s : Bool) (charge full new : ℕ) → l ≡ eqb charge (milliamp_ms full) → 0 < new
    → eqb (cond (o && not l && s) 0 charge) (milliamp_ms (cond (o && not l && s) new full)) ≡ l
close_full true true s charge full new e h = sym e
close_full true false true charge full new e h = ne_eqb 0 (milliamp_ms new) (λ z. omega arith)
close_full true false false charge full new e h = sym e
close_full false l s charge full new e h = sym e

module _ (s : Settings) (t : Tank) (x : Latest) (elapsed : ℕ) where
  -- the pack is full after a sample exactly if the sample's charge left it so: a close doesn't
  pub full_after : eqb (tank_after s t x elapsed).charge (milliamp_ms (tank_after s t x elapsed).full) ≡ (seen_of s t x elapsed).filled
  unfolding tank_after seen_of
  full_after =
      close_full t.run.opened (seen_of s t x elapsed).filled (seen_of s t x elapsed).ends (charge_moved t x elapsed) t.full (learned t.run (seen_of s t x elapsed)) refl (omega arith)

  -- what a close leaves
  pub at-close : closed s t x elapsed ≡ true
      → ((tank_after s t x elapsed).full ≡ learned t.run (seen_of s t x elapsed)) × ((tank_after s t x elapsed).charge ≡ 0)
      × ((tank_after s t x elapsed).FullyDischarged ≡ true)
  unfolding tank_after
  at-close h = (simp h, simp h, simp h)

  -- and what any other sample leaves
  pub no-close : closed s t x elapsed ≡ false
      → ((tank_after s t x elapsed).full ≡ t.full) × ((tank_after s t x elapsed).charge ≡ charge_moved t x elapsed)
  unfolding tank_after
  no-close h = (simp h, simp h)

  -- where no current flows nothing is drawn and no run closes: charge, full and both of the cycles' numbers stay
  pub at_rest : x.current ≡ 0 → TankFacts t → t.toward < milliamp_ms s.DesignCapacity
      → ((tank_after s t x elapsed).charge ≡ t.charge) × ((tank_after s t x elapsed).full ≡ t.full) × ((tank_after s t x elapsed).toward ≡ t.toward)
      × (t.CycleCount ≤ 65535 → (tank_after s t x elapsed).CycleCount ≡ t.CycleCount)
  unfolding tank_after seen_of
  at_rest c f h =
      let k = no-close (simp (c, and-false)) in
      let sum : t.toward + 0 ≡ t.toward = omega arith in
      let none : (t.toward + drawn_by x.current elapsed) / milliamp_ms s.DesignCapacity ≡ 0 = simp (c, sum) (div-eq_of_lt h) in (
        k.1 ∙ ap (λ (w : ℕ). charge_after t.charge t.full w elapsed) c ∙ nothing_flows t.charge t.full elapsed f.charge,
        k.0,
        simp (c, sum) (mod-eq_of_lt h),
        λ l. omega (arith, none, l),
      )

  -- nor does it end or close a run below full
  pub run-at-rest : x.current ≡ 0 → TankFacts t → RunFacts t.run → eqb t.charge (milliamp_ms t.full) ≡ false → (tank_after s t x elapsed).run ≡ t.run
  unfolding tank_after seen_of
  run-at-rest c f g n =
      let charge = ap (λ (w : ℕ). charge_after t.charge t.full w elapsed) c ∙ nothing_flows t.charge t.full elapsed f.charge in
      law.stays t.run (seen_of s t x elapsed) (ap (λ (n : ℕ). eqb n (milliamp_ms t.full)) charge ∙ n) (ap above c)
      (ap (λ (w : ℕ). discharge_ends x.voltage w s.DischargeLimit) c) (ap (λ (w : ℕ). drawn_by w elapsed) c) g
