-- `thirteen_area::level_in` meets its contract.
-- Assumes nothing.
use Rattle.thirteen_area.proofs.level_in.Goals as goal

pub returns : goal.returns
returns c = rw (c.number_at.ensures, c.number_at-2.ensures, c.number_at-3.ensures)
