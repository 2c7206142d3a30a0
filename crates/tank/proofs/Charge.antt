-- Charge stays between 0 and full, the learned one too, and the two counts within their bounds.
-- Assumes nothing.
use Prim.Native.Nat.{ℕ, ◌+◌, ◌-◌, ◌*◌, ◌<◌, ◌≤◌, min}
use mathlib.Core.Bool.{Bool, true, false, cond}
use mathlib.Core.Path.{◌≡◌, refl, ap}
use mathlib.Mathlib.Data.Bool.Basic.{or-eq-false-eq-eq-false-and-eq-false}
use native.Mathlib.Nat.{mod-lt}
use native.Mathlib.Omega.{arith}
use Rattle.capacity.proofs.Bounds.{at_most}
use Rattle.capacity.specs.Capacity.{milliamp_ms}
use Rattle.cycles.specs.Cycles.{drawn_by}
use Rattle.learning.specs.Learning.{counts_on, drawn_in, learned}
use Rattle.pack.proofs.Soundness.{tank_facts, tank-sound, toward_fact, toward-sound, run-sound}
use Rattle.pack.specs.Sound.{tank_sound, toward_sound, run_sound}
use Rattle.pack.specs.declared.Latest.{Latest}
use Rattle.pack.specs.declared.Settings.{Settings}
use Rattle.pack.specs.declared.Tank.{Tank}
use Rattle.tank.specs.Charge.{charge_after}
use Rattle.tank.specs.Tank.{seen_of, closed, charge_moved, tank_after}
use Rattle.words.specs.Words.{below, size_of}

pub held : (b : Bool) (charge top flow : ℕ) → charge ≤ top → cond b (charge - flow) (min top (charge + flow)) ≤ top
held true charge top flow h = omega arith
held false charge top flow h = omega arith

pub charge_held : (charge full current elapsed : ℕ) → charge ≤ milliamp_ms full → charge_after charge full current elapsed ≤ milliamp_ms full
charge_held charge full current elapsed h = held (below current) charge (milliamp_ms full) (size_of current * elapsed) h

-- a close leaves charge 0 and a new full; without one both stay: charge is at most full either way
pub left_held : (b : Bool) (charge full new c f : ℕ) → c ≡ cond b 0 charge → f ≡ cond b new full
    → 0 < new → 0 < full → charge ≤ milliamp_ms full → (0 < f) × (c ≤ milliamp_ms f)
left_held true charge full new c f d e k l h = (omega arith, omega arith)
left_held false charge full new c f d e k l h = (omega arith, omega arith)

module _ (s : Settings) (t : Tank) (x : Latest) (elapsed : ℕ) where
  -- a sample leaves a sound tank sound
  pub after_sound : tank_sound t ≡ true → tank_sound (tank_after s t x elapsed) ≡ true
  unfolding tank_after
  after_sound h =
      let f = tank_facts t h in
      let new = learned t.run (seen_of s t x elapsed) in
      let k = left_held (closed s t x elapsed) (charge_moved t x elapsed) t.full new _ _ refl refl (omega arith) f.full (charge_held t.charge t.full x.current elapsed f.charge) in
      tank-sound _ (record { full = k.0; charge = k.1 })

  -- what is kept toward the next cycle stays less than one design capacity
  pub toward-after : toward_sound s.DesignCapacity t.toward ≡ true → toward_sound s.DesignCapacity (tank_after s t x elapsed).toward ≡ true
  unfolding tank_after
  toward-after h =
      let f = toward_fact s.DesignCapacity t.toward h in
      toward-sound _ _ (mod-lt (t.toward + drawn_by x.current elapsed) (omega (arith, f)))

  -- whatever the run was, it is sound after a sample
  pub run-after : run_sound (tank_after s t x elapsed).run ≡ true
  unfolding tank_after
  run-after =
      let v = seen_of s t x elapsed in
      run-sound _
      (record {
        most = at_most (counts_on t.run v) (drawn_in t.run v) 0 (milliamp_ms 65535) (omega arith) (omega arith);
        none = λ e. ap (λ b. cond b (drawn_in t.run v) 0) ((or-eq-false-eq-eq-false-and-eq-false v.filled (counts_on t.run v)).0 e).1;
      })
