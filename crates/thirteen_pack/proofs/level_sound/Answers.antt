-- `thirteen_pack::level_sound` meets its contract: the charge is held to full in mA·ms.
-- Assumes nothing.
use borrow.Author.Rules.{rules}
use Rattle.thirteen_pack.proofs.level_sound.Goals as goal

pub returns : goal.returns
returns c = simp c.milliamp_ms.ensures.is
