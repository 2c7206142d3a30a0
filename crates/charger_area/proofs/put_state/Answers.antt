-- `charger_area::put_state` meets its contract.
-- Assumes nothing.
use native.Mathlib.Omega.{arith}
use Rattle.numbers.proofs.Numbers.{flag_is}
use Rattle.charger_area.proofs.Whole.{state_laid}
use Rattle.charger_area.proofs.put_state.Goals as goal

pub returns : goal.returns
returns c =
    record {
      memory =
          state_laid c.args.area.now c.args.s c.requires
          c.put_asked.ensures
          c.put_asked-2.ensures
          (rw (c.from.ensures, flag_is c.args.s.inhibited) at c.put_number.ensures)
          (rw c.from-2.ensures at c.put_number-2.ensures)
          c.put_latest.ensures;
      fit =
          record {
            current = omega arith;
            voltage = omega arith;
            count = omega arith;
            latest = record { voltage = omega arith; current = omega arith; temperature = omega arith; counter = omega arith };
          };
    }
