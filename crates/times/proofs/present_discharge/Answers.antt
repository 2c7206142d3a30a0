-- `times::present_discharge` meets its contract.
-- Assumes nothing.
use native.Mathlib.Omega.{arith}
use Rattle.times.proofs.present_discharge.Goals as goal

pub returns-then-falls : goal.returns-then-falls
returns-then-falls c = record { is = simp (c.size.ensures.is, ← c.falls.ensures, c.if-falls.true); small = c.size.ensures.small }

pub returns : goal.returns
returns c = record { is = simp (← c.falls.ensures, c.if-falls.false); small = omega arith }
