-- `snatchblock::snatchblock_unescape` meets its contract.
-- Assumes nothing.
use native.Mathlib.Omega.{arith}
use Rattle.snatchblock.proofs.Bounds.{asked, plain_most}
use Rattle.snatchblock.proofs.snatchblock_unescape.Goals as goal

pub wrote-requires : goal.wrote-requires
wrote-requires c = let a = c.args in asked c.unescape.ensures.value (plain_most a.part.now a.room.now) (λ _ h. omega (arith, h))
