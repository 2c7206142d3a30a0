-- `snatchblock::snatchblock_write_key` meets its contract.
-- Assumes nothing.
use native.Mathlib.Omega.{arith}
use Rattle.snatchblock.proofs.Bounds.{asked, key_most}
use Rattle.snatchblock.proofs.snatchblock_write_key.Goals as goal

pub wrote-requires : goal.wrote-requires
wrote-requires c = let a = c.args in asked c.write_key.ensures.value (key_most a.maker.now a.device.now a.date a.serial a.room.now) (λ _ h. omega (arith, h))
