-- `start::set_up` meets its contract: refused, or the pack that set-up gives.
-- Assumes nothing.
use Rattle.start.specs.SetUp.{set_up_of}
use Rattle.start.proofs.set_up.Goals as goal

pub returns-then-refused : goal.returns-then-refused
unfolding set_up_of
returns-then-refused c = simp (c.zero.ensures, ← c.refused.ensures, c.if-refused.true)

pub returns : goal.returns
unfolding set_up_of
returns c = simp (c.pack_of.ensures, ← c.refused.ensures, c.if-refused.false)
