-- `thirteen_pack::level_after` meets its contract: each step by its own function's.
-- Assumes nothing.
use borrow.Author.Rules.{rules}
use native.Mathlib.Omega.{arith}
use Prim.Native.Nat.{◌≤◌}
use mathlib.Core.Path.{subst⁻¹}
use Rattle.tank.proofs.Charge.{held}
use Rattle.thirteen_pack.proofs.level_after.Goals as goal

pub fully_discharged-empty-requires : goal.fully_discharged-empty-requires
fully_discharged-empty-requires c =
    let top = c.milliamp_ms-top in
    let falls = c.falls-falls in
    let flow = c.flowed-flow in
    let low : c.moved-charge.result ≤ top.result =
    subst⁻¹ (λ n. n ≤ top.result) c.moved-charge.ensures (held falls.result c.args.l.charge top.result flow.result (omega (arith, c.requires.1, top.ensures.is))) in
    (c.requires.0, omega (arith, low, top.ensures.is))

pub returns : goal.returns
returns c =
    simp (
      c.fully_discharged-empty.ensures,
      c.moved-charge.ensures,
      c.milliamp_ms-top.ensures.is,
      c.falls-falls.ensures,
      c.flowed-flow.ensures.is,
    )
