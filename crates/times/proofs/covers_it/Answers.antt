-- `times::covers_it` meets its contract.
-- Assumes nothing.
use Prim.Native.Nat.{◌≤◌}
use native.Mathlib.Omega.{arith}
use Rattle.pack.proofs.Soundness.{tank_facts}
use Rattle.times.proofs.covers_it.Goals as goal

pub product-held-requires : goal.product-held-requires
product-held-requires c =
    let full : c.args.p.tank.full ≤ 65535 = omega arith in
    omega (arith, (tank_facts c.args.p.tank c.requires).charge, full)
