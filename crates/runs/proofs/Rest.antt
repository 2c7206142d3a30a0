-- A sample whose current is 0 adds nothing, and time is counted from its reading on.
-- Assumes nothing.
use Prim.Native.Nat.{ℕ, ◌≤◌}
use mathlib.Core.Bool.{Bool, true, false, cond, not}
use mathlib.Core.Path.{◌≡◌, refl, ap, ap₂, ◌∙◌}
use borrow.Author.Tests.{le-ltb}
use lib.Dec.{eqb}
use lib.IntN.{pos}
use mir.Syntax.{w16}
use mir.Val.{of_z}
use Rattle.alarms.specs.Alarms.{charge_full}
use Rattle.broadcasts.specs.Broadcasts.{least_room}
use Rattle.clock.specs.Broadcast.{sampled_of, sample_of, served_sample, refused_sample}
use Rattle.clock.specs.Sample.{moved_of}
use Rattle.clock.proofs.Outcome.{outcome}
use Rattle.clock_laws.specs.Steps.{gap}
use Rattle.pack.proofs.Soundness.{toward_fact, run_facts, parts, pack_of_sound, tank_of_sound}
use Rattle.pack.specs.Kept.{latest_of}
use Rattle.pack.specs.Sound.{sound_of}
use Rattle.pack.specs.declared.Pack.{Pack}
use Rattle.pack.specs.declared.Sample.{Sample}
use Rattle.pack.specs.declared.State.{State}
use Rattle.pack.specs.declared.Tank.{Tank}
use Rattle.runs.proofs.Histories.{step_sound, took}
use Rattle.runs.proofs.Charge.{counter_of, charge_from}
use Rattle.runs.proofs.Measures.{time_true}
use Rattle.runs.specs.Events.{sample, step, answer_to}
use Rattle.runs.specs.Rest.{NoCurrentNoCharge, RestKeepsCharge, ChargeAfterRest, TimeAfterRest}
use Rattle.tank.proofs.Steps.{at_rest, run-at-rest}

-- the word of no current
no_word : (x : Sample) → x.current ≡ pos 0 → (latest_of x).current ≡ 0
no_word x c = ap (of_z w16) c

-- a sound state's tank at an accepted sample whose current is 0
rested : (s : State) (x : Sample) → x.current ≡ pos 0 → sound_of s ≡ true
    → let t = (sampled_of s.pack x).tank in
    (t.charge ≡ s.pack.tank.charge) × (t.full ≡ s.pack.tank.full) × (t.toward ≡ s.pack.tank.toward)
    × (s.pack.tank.CycleCount ≤ 65535 → t.CycleCount ≡ s.pack.tank.CycleCount)
    × (charge_full s.pack ≡ false → t.run ≡ s.pack.tank.run)
unfolding sampled_of moved_of
rested s x c h =
    let p = s.pack in
    let f = parts p (pack_of_sound s h) in
    let k = at_rest p.settings p.tank (latest_of x) (gap p x) (no_word x c) (tank_of_sound s h) (toward_fact p.settings.DesignCapacity p.tank.toward f.toward) in
    (k.0, k.1, k.2, k.3, run-at-rest p.settings p.tank (latest_of x) (gap p x) (no_word x c) (tank_of_sound s h) (run_facts p.tank.run f.run))

pub no_current_no_charge : NoCurrentNoCharge
no_current_no_charge s x n c = outcome (λ r. r.state.pack.tank.charge ≡ s.pack.tank.charge) s x n refl refl (λ h. (rested s x c h).0)

-- a sample on a sound state with room enough is accepted
served : (s : State) (x : Sample) (n : ℕ) → sound_of s ≡ true → least_room s.pack.settings.plain ≤ n → answer_to s (sample x n) ≡ 0
unfolding sample_of
served s x n h room =
    ap₂ (λ (sound : Bool) (small : Bool). (cond (not sound) (refused_sample 1 s) (cond small (refused_sample 2 s) (served_sample s x))).answer) h
    (le-ltb n (least_room s.pack.settings.plain) room)

pub rest_keeps_charge : RestKeepsCharge
rest_keeps_charge s x n r =
    let p = s.pack in
    let answer = served s x n r.sound r.room in
    let a = ap (λ (a : ℕ). eqb a 0) answer in
    let t : (step s (sample x n)).pack.tank ≡ (sampled_of p x).tank = ap (λ (q : Pack). q.tank) (took s x n a).pack in
    let k = rested s x r.no_current r.sound in
    record {
      answer = answer;
      charge = no_current_no_charge s x n r.no_current;
      full = ap (λ (u : Tank). u.full) t ∙ k.1;
      cycles = λ l. ap (λ (u : Tank). u.CycleCount) t ∙ k.3 l;
      toward = ap (λ (u : Tank). u.toward) t ∙ k.2;
      run = λ n. ap (λ (u : Tank). u.run) t ∙ k.4 n;
      counter = counter_of s x n a;
      sound = step_sound s (sample x n) r.sound;
    }

pub charge_after_rest : ChargeAfterRest
charge_after_rest s x n es r t f =
    let k = rest_keeps_charge s x n r in
    charge_from (step s (sample x n)) es k.sound t f ∙ rw (k.full, k.charge, k.counter)

pub time_after_rest : TimeAfterRest
time_after_rest s x n es start stop r at = let k = rest_keeps_charge s x n r in time_true (step s (sample x n)) es start stop k.sound (k.counter ∙ at)
