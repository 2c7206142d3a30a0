-- `thirteen_words::show` meets its contract: by what the register gives.
-- Assumes nothing.
use borrow.Author.Rules.{rules}
use Rattle.thirteen_words.proofs.show.Goals as goal

pub returns : goal.returns
returns c = simp (c.from.ensures, c.register.ensures)
