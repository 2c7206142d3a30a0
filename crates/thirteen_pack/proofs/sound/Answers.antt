-- `thirteen_pack::sound` meets its contract: each part by its own test.
-- Assumes nothing.
use borrow.Author.Rules.{rules}
use Rattle.thirteen_pack.specs.Sound.{pack_sound, sound_of}
use Rattle.thirteen_pack.proofs.sound.Goals as goal

pub returns : goal.returns
unfolding pack_sound sound_of
returns c = simp (c.error_sound.ensures, c.sound.ensures, c.level_sound.ensures, c.fixed_sound.ensures)
