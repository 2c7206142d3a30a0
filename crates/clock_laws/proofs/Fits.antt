-- A sample leaves fields that hold what their types let them hold.
-- Assumes nothing.
use Prim.Native.Nat.{ℕ, ◌+◌, min}
use mathlib.Core.Bool.{cond}
use native.Mathlib.Omega.{arith}
use Rattle.capacity.proofs.Bounds.{at_most}
use Rattle.broadcasts.specs.Broadcasts.{alarm_goes, charger_goes}
use Rattle.clock.specs.Broadcast.{sampled_of}
use Rattle.clock.specs.Sample.{elapsed_of, moved_of}
use Rattle.clock.proofs.Outcome.{outcome}
use Rattle.clock_laws.proofs.Timers.{no_more}
use Rattle.clock_laws.specs.Promises.{SampledFits}
use Rattle.pack.proofs.Kept.{kept_fits}
use Rattle.learning.specs.Learning.{learned}
use Rattle.pack.proofs.Soundness.{tank_facts, toward_fact, run_facts, parts, pack_of_sound}
use Rattle.pack.specs.Facts.{SoundParts}
use Rattle.pack.specs.Fits.{Fits, PackFits, SampleFits, TankFit}
use Rattle.pack.specs.Kept.{latest_of}
use Rattle.pack.specs.declared.Latest.{Latest}
use Rattle.pack.specs.declared.Pack.{Pack}
use Rattle.pack.specs.declared.Sample.{Sample}
use Rattle.seconds.proofs.After.{after_fits}
use Rattle.tank.proofs.Charge as tank
use Rattle.tank.specs.Tank.{seen_of, closed, tank_after}

tank_fits : (p : Pack) (x : Latest) (elapsed : ℕ) → SoundParts p → PackFits p → TankFit (tank_after p.settings p.tank x elapsed)
unfolding tank_after
tank_fits p x elapsed h f =
    let s = p.settings in
    let t = p.tank in
    let full = at_most (closed s t x elapsed) (learned t.run (seen_of s t x elapsed)) t.full 65535 (omega arith) (omega (arith, f.tank.full)) in
    record {
      charge = omega (arith, full, (tank_facts (tank_after s t x elapsed) (tank.after_sound s t x elapsed h.tank)).charge);
      full = omega (arith, full);
      CycleCount = omega arith;
      toward = omega (arith, f.settings.DesignCapacity, toward_fact s.DesignCapacity (tank_after s t x elapsed).toward (tank.toward-after s t x elapsed h.toward));
      drawn = omega (arith, (run_facts (tank_after s t x elapsed).run (tank.run-after s t x elapsed)).most);
    }

sampled_pack : (p : Pack) (x : Sample) → SoundParts p → PackFits p → SampleFits x → PackFits (sampled_of p x)
unfolding sampled_of moved_of
sampled_pack p x h f g =
    let e = elapsed_of x.counter p.latest.counter in
    let t = p.timers in
    let alarm = min 10000 (t.alarm + e) in
    let charger = cond p.host.ChargerMode 0 (min 30000 (t.charger + e)) in
    record {
      settings = f.settings;
      host = record { ManufacturerAccess = f.host.ManufacturerAccess; RemainingCapacityAlarm = f.host.RemainingCapacityAlarm; RemainingTimeAlarm = f.host.RemainingTimeAlarm; AtRate = f.host.AtRate };
      latest = kept_fits x g;
      recent = after_fits p.recent (latest_of x).current e h.recent f.recent;
      tank = tank_fits p (latest_of x) e h f;
      timers =
          record {
            hold = omega (arith, f.timers.hold);
            alarm = omega (arith, no_more (alarm_goes (moved_of p x)) alarm);
            charger = omega (arith, no_more (charger_goes (moved_of p x)) charger, no_more p.host.ChargerMode (min 30000 (t.charger + e)));
          };
    }

pub sampled_fits : SampledFits
sampled_fits s x n f g =
    outcome (λ r. Fits r.state) s x n f f (λ h. record { error = f.error; pack = sampled_pack s.pack x (parts s.pack (pack_of_sound s h)) f.pack g })
