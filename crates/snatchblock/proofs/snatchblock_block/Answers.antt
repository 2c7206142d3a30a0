-- `snatchblock::snatchblock_block` meets its contract.
-- Assumes nothing.
use Rattle.snatchblock.proofs.Bounds.{located-most}
use Rattle.snatchblock.proofs.snatchblock_block.Goals as goal

pub located-requires : goal.located-requires
located-requires c = let a = c.args in rw c.locate.ensures (located-most a.service.now a.factory.now a.tag)
