-- `charger_area::is_area` meets its contract.
-- Assumes nothing.
use mathlib.Core.Bool.{and-true}
use borrow.Author.Tests.{eq-eqb, ne_eqb}
use Rattle.charger_area.proofs.is_area.Goals as goal

pub returns-then-area-ne-LENGTH : goal.returns-then-area-ne-LENGTH
returns-then-area-ne-LENGTH c = rw (ne_eqb _ _ c.if-area-ne-LENGTH.true)

pub returns : goal.returns
returns c = rw (eq-eqb _ _ c.if-area-ne-LENGTH.false, c.is_asked.ensures, c.is_asked-2.ensures, c.number_at.ensures) (simp and-true)
