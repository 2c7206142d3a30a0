-- `snatchblock::snatchblock_write_sheet` meets its contract.
-- Assumes nothing.
use mathlib.Core.Path.{sym, ◌∙◌}
use native.Mathlib.Omega.{arith}
use Rattle.sheet_writer.proofs.Laid.{wrote_most}
use Rattle.snatchblock.proofs.snatchblock_write_sheet.Goals as goal

pub wrote-requires : goal.wrote-requires
wrote-requires c n is = omega (arith, wrote_most _ _ _ _ c.args.room.now n (sym c.write_sheet.ensures.value ∙ is))
