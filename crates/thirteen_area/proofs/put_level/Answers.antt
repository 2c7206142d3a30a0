-- `thirteen_area::put_level` meets its contract.
-- Assumes nothing.
use lib.ListN.{length-set}
use mathlib.Core.Path.{sym, ◌∙◌}
use Rattle.area_parts.proofs.Parts.{flag_byte}
use Rattle.rooms.proofs.Rooms.{whole}
use Rattle.thirteen_area.specs.Area.{level_bytes}
use Rattle.thirteen_area.proofs.put_level.Goals as goal

pub shape_of-part : goal.shape_of-part
shape_of-part c =
    simp length-set (c.put_number-2.auto.part ∙ c.put_number.auto.part)

pub returns : goal.returns
returns c =
    rw (c.from-2.ensures ∙ flag_byte c.args.l.FullyDischarged, c.put_number-2.ensures, c.from.ensures, c.put_number.ensures)
    (whole c.args.part.now (level_bytes c.args.l) (sym c.requires))
