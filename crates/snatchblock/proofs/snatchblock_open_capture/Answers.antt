-- `snatchblock::snatchblock_open_capture` meets its contract.
-- Assumes nothing.
use native.Mathlib.Omega.{arith}
use Rattle.snatchblock.proofs.Bounds.{asked, opened_most}
use Rattle.snatchblock.proofs.snatchblock_open_capture.Goals as goal

pub opened-requires : goal.opened-requires
opened-requires c = let a = c.args in asked c.«open».ensures (opened_most a.bytes.now) (λ _ h. (omega (arith, h), omega (arith, h)))
