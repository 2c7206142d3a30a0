-- `area::put_state` meets its contract.
-- Assumes nothing.
use Rattle.area.proofs.Whole.{state_laid}
use Rattle.area.proofs.put_state.Goals as goal

pub returns : goal.returns
returns c =
    record {
      memory = state_laid c.args.area.now c.args.s c.requires
          (rw c.from.ensures at c.put_number.ensures)
          c.put_settings.ensures
          c.put_host.ensures
          c.put_latest.ensures
          c.put_tank.ensures
          c.put_timers.ensures
          c.put_recent.ensures.memory;
      fit = c.put_recent.ensures.fit;
    }
