-- `area_parts::put_host` meets its contract.
-- Assumes nothing.
use lib.ListN.{length-set}
use native.Mathlib.Omega.{arith}
use mathlib.Core.Path.{sym, ◌∙◌}
use Rattle.area_parts.proofs.Parts.{flag_byte}
use Rattle.rooms.proofs.Rooms.{whole}
use Rattle.area_parts.specs.Parts.{host_bytes}
use Rattle.area_parts.proofs.put_host.Goals as goal

pub bounds-part-9 : goal.bounds-part-9
bounds-part-9 c = simp length-set (omega arith)

pub bounds-part-10 : goal.bounds-part-10
bounds-part-10 c = simp length-set (omega arith)

pub returns : goal.returns
returns c =
    rw (c.from-3.ensures ∙ flag_byte c.args.h.CapacityMode, c.from-2.ensures ∙ flag_byte c.args.h.ChargerMode, c.from.ensures ∙ flag_byte c.args.h.AlarmMode, c.put_numbers.ensures.memory)
    (whole c.args.part.now (host_bytes c.args.h) (sym c.requires))
