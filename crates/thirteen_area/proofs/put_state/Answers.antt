-- `thirteen_area::put_state` meets its contract.
-- Assumes nothing.
use native.Mathlib.Omega.{arith}
use Rattle.thirteen_area.proofs.Whole.{state_laid}
use Rattle.thirteen_area.proofs.put_state.Goals as goal

pub returns : goal.returns
returns c =
    let cell = c.put_cells.ensures in
    record {
      memory =
          state_laid c.args.area.now c.args.s c.requires cell.fit.thirteen
          (rw c.from.ensures at c.put_number.ensures)
          c.put_fixed.ensures
          c.put_latest.ensures
          cell.memory
          c.put_level.ensures
          c.put_recent.ensures.memory;
      fit =
          record {
            error = omega arith;
            pack =
                record {
                  fixed = record { DesignCapacity = omega arith; DesignVoltage = omega arith; StateOfHealth = omega arith };
                  latest = record { voltage = omega arith; current = omega arith; temperature = omega arith; counter = omega arith };
                  cells = cell.fit;
                  level = record { charge = omega arith; full = omega arith };
                  recent = c.put_recent.ensures.fit;
                };
          };
    }
