-- `charger_area::put_asked` meets its contract.
-- Assumes nothing.
use lib.ListN.{length-set}
use mathlib.Core.Path.{sym, ◌∙◌}
use native.Mathlib.Omega.{arith}
use Rattle.area_parts.proofs.Parts.{flag_byte}
use Rattle.charger_area.specs.Area.{asked_bytes}
use Rattle.rooms.proofs.Rooms.{whole}
use Rattle.charger_area.proofs.put_asked.Goals as goal

pub bounds-part-3 : goal.bounds-part-3
bounds-part-3 c = simp length-set (omega arith)

pub returns : goal.returns
returns c =
    rw (c.from-3.ensures ∙ flag_byte c.args.a.awaited, c.from-2.ensures ∙ flag_byte c.args.a.taken, c.put_number.ensures, c.from.ensures)
    (whole c.args.part.now (asked_bytes c.args.a) (sym c.requires))
