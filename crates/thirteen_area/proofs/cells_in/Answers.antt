-- `thirteen_area::cells_in` meets its contract.
-- Assumes nothing.
use Rattle.thirteen_area.specs.Area.{cells_in}
use Rattle.thirteen_area.proofs.cells_in.Goals as goal

pub returns : goal.returns
unfolding cells_in
returns c = c.numbers_at.ensures
