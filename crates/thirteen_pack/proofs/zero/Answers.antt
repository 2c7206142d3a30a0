-- `thirteen_pack::zero` meets its contract: field by field.
-- Assumes nothing.
use borrow.Author.Rules.{rules}
use Rattle.thirteen_pack.proofs.zero.Goals as goal

pub returns : goal.returns
returns c = simp c.zero-recent.ensures
