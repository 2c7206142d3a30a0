use native.Mathlib.Omega.{arith}
use Rattle.names.proofs.Reading.{number-bad, number-ended}
use Rattle.names.proofs.read_from.Goals as goal

pub returns-then-number-key-2 : goal.returns-then-number-key-2
returns-then-number-key-2 c = number-bad _ _ _ c.plain-number.ensures c.if-number-key-2.true

pub returns : goal.returns
returns c = number-ended _ _ _ c.plain-number.ensures (omega arith)
