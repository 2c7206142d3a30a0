-- `charger_area::asked_in` meets its contract.
-- Assumes nothing.
use Rattle.charger_area.proofs.asked_in.Goals as goal

pub returns : goal.returns
returns c = rw (c.number_at.ensures, c.number_at-2.ensures, c.number_at-3.ensures)
