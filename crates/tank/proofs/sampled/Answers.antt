-- `tank::sampled` meets its contract: each step by its own function's.
-- Assumes nothing.
use Prim.Native.Nat.{◌≤◌}
use mathlib.Core.Path.{subst⁻¹}
use native.Mathlib.Omega.{arith}
use Rattle.pack.proofs.Soundness.{tank_facts, toward_fact, run_facts}
use Rattle.tank.specs.Tank.{seen_of, tank_after}
use Rattle.tank.proofs.Charge.{held, left_held}
use Rattle.tank.proofs.sampled.Goals as goal

pub moved-charge-requires : goal.moved-charge-requires
moved-charge-requires c = omega (arith, (tank_facts c.args.t c.requires.0).charge, c.milliamp_ms-top.ensures.is)

pub counted-cycles-requires : goal.counted-cycles-requires
counted-cycles-requires c =
    let flow = c.flowed-flow in
    (toward_fact c.args.s.DesignCapacity c.args.t.toward c.requires.1, omega (arith, c.drawn-drawn.ensures.most, flow.ensures.small))

pub left-level-requires : goal.left-level-requires
left-level-requires c =
    let drawn = c.drawn-drawn in
    let flow = c.flowed-flow in
    ((run_facts c.args.t.run c.requires.2).most, omega (arith, drawn.ensures.most, flow.ensures.small))

pub run_after-run-requires : goal.run_after-run-requires
run_after-run-requires c = (let drawn = c.drawn-drawn in
    let flow = c.flowed-flow in
    ((run_facts c.args.t.run c.requires.2).most, omega (arith, drawn.ensures.most, flow.ensures.small)))

pub fully_discharged-empty-requires : goal.fully_discharged-empty-requires
fully_discharged-empty-requires c =
    let level = c.left-level in
    let closed = c.run_closes-closed.result in
    let moved = c.moved-charge in
    let falls = c.falls-falls in
    let flow = c.flowed-flow in
    let top = c.milliamp_ms-top in
    let f = tank_facts c.args.t c.requires.0 in
    let low : moved.result ≤ top.result =
    subst⁻¹ (λ n. n ≤ top.result) moved.ensures (held falls.result c.args.t.charge top.result flow.result ((omega (arith, (tank_facts c.args.t c.requires.0).charge, c.milliamp_ms-top.ensures.is)))) in
    left_held closed moved.result c.args.t.full _ level.result.charge level.result.full level.ensures.charge level.ensures.full (omega arith) f.full (omega (arith, low, top.ensures.is))

pub returns : goal.returns
unfolding tank_after seen_of
returns c =
    simp (
      c.fully_discharged-empty.ensures,
      c.run_after-run.ensures,
      c.left-level.ensures.charge,
      c.left-level.ensures.full,
      c.run_closes-closed.ensures,
      c.discharge_ends.ensures,
      c.rises.ensures,
      c.counted-cycles.ensures.count,
      c.counted-cycles.ensures.toward,
      c.drawn-drawn.ensures.is,
      c.moved-charge.ensures,
      c.milliamp_ms-top.ensures.is,
      c.falls-falls.ensures,
      c.flowed-flow.ensures.is,
    )
