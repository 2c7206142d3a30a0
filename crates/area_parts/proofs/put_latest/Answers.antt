-- `area_parts::put_latest` meets its contract.
-- Assumes nothing.
use mathlib.Core.Path.{sym}
use Rattle.rooms.proofs.Rooms.{whole}
use Rattle.area_parts.specs.Parts.{latest_bytes}
use Rattle.area_parts.proofs.put_latest.Goals as goal

pub returns : goal.returns
returns c =
    rw (c.put_number.ensures, c.from.ensures, c.put_numbers.ensures.memory)
    (whole c.args.part.now (latest_bytes c.args.l) (sym c.requires))
