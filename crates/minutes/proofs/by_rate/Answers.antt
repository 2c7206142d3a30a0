-- `minutes::by_rate` meets its contract: each way out by its tests.
-- Assumes nothing.
use Prim.Native.Nat.{◌/◌}
use borrow.Author.Tests.{eq-eqb, ne_eqb, lt-ltb, le-ltb}
use native.Mathlib.Omega.{arith}
use Rattle.minutes.proofs.by_rate.Goals as goal

pub returns-then-rate-eq0 : goal.returns-then-rate-eq0
returns-then-rate-eq0 c = simp (c.if-not-flows.false, eq-eqb _ _ c.if-rate-eq0.true)

pub returns-then-m-le65534 : goal.returns-then-m-le65534
returns-then-m-le65534 c =
    let m = c.product16.result / c.args.rate in
    simp (c.if-not-flows.false, ne_eqb _ _ c.if-rate-eq0.false, ← c.product16.ensures, le-ltb 65534 m (omega (arith, c.if-m-le65534.true)))

pub returns-else-m-le65534 : goal.returns-else-m-le65534
returns-else-m-le65534 c =
    let m = c.product16.result / c.args.rate in
    simp (c.if-not-flows.false, ne_eqb _ _ c.if-rate-eq0.false, ← c.product16.ensures, lt-ltb 65534 m (omega (arith, c.if-m-le65534.false)))
