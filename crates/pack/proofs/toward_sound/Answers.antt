-- `pack::toward_sound` meets its contract: less than one design capacity in mA·ms.
-- Assumes nothing.
use Rattle.pack.specs.Sound.{toward_sound}
use Rattle.pack.proofs.toward_sound.Goals as goal

pub returns : goal.returns
unfolding toward_sound
returns c = simp c.milliamp_ms.ensures.is
