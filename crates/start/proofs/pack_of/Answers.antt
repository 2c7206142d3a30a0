-- `start::pack_of` meets its contract: each part by its own function's.
-- Assumes nothing.
use Rattle.start.specs.SetUp.{pack_of}
use Rattle.start.proofs.pack_of.Goals as goal

pub returns : goal.returns
unfolding pack_of
returns c = simp (c.tank_of.ensures, c.zero.ensures, c.latest_of.ensures, c.host_of.ensures, c.settings_of.ensures)
