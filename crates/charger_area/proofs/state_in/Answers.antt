-- `charger_area::state_in` meets its contract.
-- Assumes nothing.
use Rattle.charger_area.specs.Area.{charger_in}
use Rattle.charger_area.proofs.state_in.Goals as goal

pub returns : goal.returns
unfolding charger_in
returns c = rw (c.asked_in.ensures, c.asked_in-2.ensures, c.number_at.ensures, c.number_at-2.ensures, c.latest_in.ensures)
