-- `area_parts::put_timers` meets its contract.
-- Assumes nothing.
use mathlib.Core.Path.{sym}
use Rattle.rooms.proofs.Rooms.{whole}
use Rattle.area_parts.specs.Parts.{timers_bytes}
use Rattle.area_parts.proofs.put_timers.Goals as goal

pub returns : goal.returns
returns c =
    rw (c.put_number-3.ensures, c.put_number-2.ensures, c.put_number.ensures, c.from.ensures, c.from-2.ensures, c.from-3.ensures)
    (whole c.args.part.now (timers_bytes c.args.t) (sym c.requires))
