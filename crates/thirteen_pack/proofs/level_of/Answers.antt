-- `thirteen_pack::level_of` meets its contract: the charge of the remaining mAh, which is at most full, and bit 4 from clear.
-- Assumes nothing.
use borrow.Author.Rules.{rules}
use Rattle.thirteen_pack.proofs.level_of.Goals as goal

pub returns : goal.returns
returns c = simp (c.fully_discharged-empty.ensures, c.milliamp_ms-charge.ensures.is)
