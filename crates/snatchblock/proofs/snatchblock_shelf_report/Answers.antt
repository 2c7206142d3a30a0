-- `snatchblock::snatchblock_shelf_report` meets its contract.
-- Assumes nothing.
use native.Mathlib.Omega.{arith}
use Rattle.snatchblock.proofs.Bounds as bounds
use Rattle.snatchblock.proofs.Bounds.{figures_most}
use Rattle.snatchblock.proofs.snatchblock_shelf_report.Goals as goal

pub wrote-requires : goal.wrote-requires
wrote-requires c = let a = c.args in bounds.asked c.write_report.ensures.value (figures_most a.table.now a.room.now) (λ _ h. omega (arith, h))
