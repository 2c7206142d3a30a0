-- `capacity::relative` meets its contract: a percent of at most 100 fits 16 bits.
-- Assumes nothing.
use native.Mathlib.Omega.{arith}
use Rattle.capacity.proofs.Bounds.{percent_most}
use Rattle.capacity.proofs.relative.Goals as goal

pub overflow_cast-result : goal.overflow_cast-result
overflow_cast-result c = omega (arith, percent_most c.args.charge c.args.full c.requires.1, c.percent.ensures)
