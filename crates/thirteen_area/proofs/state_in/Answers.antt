-- `thirteen_area::state_in` meets its contract.
-- Assumes nothing.
use Rattle.thirteen_area.specs.Area.{state_in}
use Rattle.thirteen_area.proofs.state_in.Goals as goal

pub returns : goal.returns
unfolding state_in
returns c =
    rw (
      c.fixed_in.ensures,
      c.latest_in.ensures,
      c.cells_in.ensures,
      c.level_in.ensures,
      c.recent_in.ensures,
      c.number_at.ensures,
    )
