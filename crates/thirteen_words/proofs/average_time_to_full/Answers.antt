-- `thirteen_words::average_time_to_full` meets its contract: by its parts.
-- Assumes nothing.
use native.Mathlib.Omega.{arith}
use borrow.Author.Rules.{rules}
use Rattle.thirteen_words.proofs.average_time_to_full.Goals as goal

-- remaining is at most full
pub overflow_sub-missing : goal.overflow_sub-missing
overflow_sub-missing c = omega (arith, c.remaining_capacity.ensures, c.requires.charge)

pub returns : goal.returns
returns c =
    simp (
      c.by_rate.ensures,
      c.size-rate.ensures.is,
      c.remaining_capacity.ensures,
      c.rises-flows.ensures,
      c.average-average.ensures,
    )
