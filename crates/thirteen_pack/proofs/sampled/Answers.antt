-- `thirteen_pack::sampled` meets its contract: each part by its own function's.
-- Assumes nothing.
use borrow.Author.Rules.{rules}
use Rattle.thirteen_pack.specs.Sample.{sampled_of}
use Rattle.thirteen_pack.proofs.sampled.Goals as goal

pub returns : goal.returns
unfolding sampled_of
returns c =
    simp (
      c.sampled-recent.ensures,
      c.level_after-level.ensures,
      c.latest_of-latest.ensures,
      c.elapsed-time.ensures,
    )
