-- `thirteen_area::put_fixed` meets its contract.
-- Assumes nothing.
use mathlib.Core.Path.{sym}
use Rattle.rooms.proofs.Rooms.{whole}
use Rattle.thirteen_area.specs.Area.{fixed_bytes}
use Rattle.thirteen_area.proofs.put_fixed.Goals as goal

pub returns : goal.returns
returns c =
    rw c.put_numbers.ensures.memory (whole c.args.part.now (fixed_bytes c.args.f) (sym c.requires))
