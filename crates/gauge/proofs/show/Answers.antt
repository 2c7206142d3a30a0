-- `gauge::show` meets its contract.
-- Assumes nothing.
use borrow.Author.Rules.{rules}
use Rattle.gauge.proofs.show.Goals as goal

pub returns : goal.returns
returns c = simp (c.from.ensures, c.register.ensures)
