-- `thirteen_area::is_level` meets its contract.
-- Assumes nothing.
use mathlib.Core.Bool.{and-true}
use Rattle.thirteen_area.proofs.is_level.Goals as goal

pub returns : goal.returns
returns c = rw c.number_at.ensures (simp and-true)
