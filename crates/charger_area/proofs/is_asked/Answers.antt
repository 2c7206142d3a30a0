-- `charger_area::is_asked` meets its contract.
-- Assumes nothing.
use mathlib.Core.Bool.{and-true}
use Rattle.charger_area.proofs.is_asked.Goals as goal

pub returns : goal.returns
returns c = rw (c.number_at.ensures, c.number_at-2.ensures) (simp and-true)
