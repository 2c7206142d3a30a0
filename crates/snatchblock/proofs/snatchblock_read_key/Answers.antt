-- `snatchblock::snatchblock_read_key` meets its contract.
-- Assumes nothing.
use native.Mathlib.Omega.{arith}
use Rattle.snatchblock.proofs.Bounds.{asked, found_most}
use Rattle.snatchblock.proofs.snatchblock_read_key.Goals as goal

pub key_read-requires : goal.key_read-requires
key_read-requires c = let a = c.args in asked c.find.ensures (found_most a.key.now) (λ _ h. (omega (arith, h), h.1, omega (arith, h)))
