-- `times::missing_capacity` meets its contract: 0F is never above 10, so the difference is no less than 0.
-- Assumes nothing.
use native.Mathlib.Omega.{arith}
use Rattle.registers.proofs.Laws.{remaining_at_most_full}
use Rattle.times.proofs.missing_capacity.Goals as goal

pub overflow_sub-result : goal.overflow_sub-result
overflow_sub-result c = omega (arith, remaining_at_most_full c.args.p c.requires, c.remaining_capacity-remaining.ensures, c.full_charge_capacity-full.ensures)
