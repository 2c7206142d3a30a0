-- `times::at_rate_ok` meets its contract.
-- Assumes nothing.
use Rattle.times.proofs.at_rate_ok.Goals as goal

pub returns-then-falls : goal.returns-then-falls
returns-then-falls c = simp (c.flag.ensures.is, c.covers_it.ensures, ← c.falls.ensures, c.if-falls.true)

pub returns : goal.returns
returns c = simp (← c.falls.ensures, c.if-falls.false)
