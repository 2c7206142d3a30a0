-- `seconds::shifted` meets its contract: the old totals follow, as many as there is room for.
-- Assumes nothing.
use Rattle.seconds.proofs.Places.{filled, followed}
use Rattle.seconds.proofs.shifted.Goals as goal

pub returns-then-n-lt60 : goal.returns-then-n-lt60
returns-then-n-lt60 c = let a = c.args in followed a.n a.whole a.full a.old.now c.if-n-lt60.true _ c.copy_from_slice.ensures.after

pub returns-else-n-lt60 : goal.returns-else-n-lt60
returns-else-n-lt60 c = let a = c.args in filled a.n a.whole a.full a.old.now 60 c.if-n-lt60.false
