-- `snatchblock::snatchblock_step_capture` meets its contract.
-- Assumes nothing.
use Rattle.snatchblock.proofs.Bounds.{step_most}
use Rattle.snatchblock.proofs.snatchblock_step_capture.Goals as goal

pub stepped-requires : goal.stepped-requires
stepped-requires c = let a = c.args in rw c.step_at.ensures (step_most a.bytes.now a.row a.place)
