use native.Mathlib.Omega.{arith}
use Rattle.sheet.proofs.Shift.{four_each}
use Rattle.sheet_steps.proofs.Walk.{in_row, past_rows}
use Rattle.sheet_steps.proofs.place.Goals as goal

pub returns-then-k-n : goal.returns-then-k-n
returns-then-k-n c = in_row _ _ _ _ c.if-k-n.true (rw (four_each c.args.k (omega (arith, c.requires, c.if-k-n.true))) at c.offset.ensures.0)

pub returns-else-k-n : goal.returns-else-k-n
returns-else-k-n c = past_rows _ _ _ c.if-k-n.false
