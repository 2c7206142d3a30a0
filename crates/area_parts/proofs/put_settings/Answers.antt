-- `area_parts::put_settings` meets its contract.
-- Assumes nothing.
use mathlib.Core.Path.{sym, ◌∙◌}
use Rattle.area_parts.proofs.Parts.{flag_byte}
use Rattle.rooms.proofs.Rooms.{whole}
use Rattle.area_parts.specs.Parts.{settings_bytes}
use Rattle.area_parts.proofs.put_settings.Goals as goal

pub returns : goal.returns
returns c =
    rw (c.from.ensures ∙ flag_byte c.args.s.plain, c.put_numbers.ensures.memory)
    (whole c.args.part.now (settings_bytes c.args.s) (sym c.requires))
