-- `area::state_in` meets its contract.
-- Assumes nothing.
use Rattle.area.specs.Area.{state_in}
use Rattle.area.proofs.state_in.Goals as goal

pub returns : goal.returns
unfolding state_in
returns c =
    rw (
      c.settings_in.ensures,
      c.host_in.ensures,
      c.latest_in.ensures,
      c.recent_in.ensures,
      c.tank_in.ensures,
      c.timers_in.ensures,
      c.number_at.ensures,
    )
