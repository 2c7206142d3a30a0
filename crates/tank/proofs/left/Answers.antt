-- `tank::left` meets its contract.
-- Assumes nothing.
use Rattle.tank.proofs.left.Goals as goal

pub returns-then-closed : goal.returns-then-closed
returns-then-closed c = record { charge = simp c.if-closed.true; full = simp (c.if-closed.true, c.full_learned.ensures) }

pub returns : goal.returns
returns c = record { charge = simp c.if-closed.false; full = simp c.if-closed.false }
