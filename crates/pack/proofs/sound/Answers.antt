-- `pack::sound` meets its contract: each part by its own test.
-- Assumes nothing.
use Rattle.pack.specs.Sound.{pack_sound, sound_of}
use Rattle.pack.proofs.sound.Goals as goal

pub returns : goal.returns
unfolding pack_sound sound_of
returns c = simp (c.error_sound.ensures, c.timers_sound.ensures, c.sound.ensures, c.run_sound.ensures, c.toward_sound.ensures, c.tank_sound.ensures, c.settings_sound.ensures)
