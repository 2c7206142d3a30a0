-- `thirteen_pack::pack_of` meets its contract: each part by its own function's.
-- Assumes nothing.
use borrow.Author.Rules.{rules}
use Rattle.thirteen_pack.specs.SetUp.{pack_of}
use Rattle.thirteen_pack.proofs.pack_of.Goals as goal

pub returns : goal.returns
unfolding pack_of
returns c = simp (c.zero-recent.ensures, c.level_of-level.ensures, c.latest_of-latest.ensures)
