-- `pack::tank_sound` meets its contract: the charge is held to full in mA·ms.
-- Assumes nothing.
use Rattle.pack.specs.Sound.{tank_sound}
use Rattle.pack.proofs.tank_sound.Goals as goal

pub returns : goal.returns
unfolding tank_sound
returns c = simp c.milliamp_ms.ensures.is
