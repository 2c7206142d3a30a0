-- `thirteen_pack::sample` meets its contract: refused, or the pack after it.
-- Assumes nothing.
use mathlib.Core.Path.{sym, ◌∙◌}
use borrow.Author.Rules.{rules}
use borrow.Author.Tests.{not-true, not-false}
use Rattle.thirteen_pack.proofs.Facts.{facts_of_sound}
use Rattle.thirteen_pack.specs.Sample.{sample_of}
use Rattle.thirteen_pack.proofs.sample.Goals as goal

pub returns-then-not-sound : goal.returns-then-not-sound
unfolding sample_of
returns-then-not-sound c = simp (sym c.sound.ensures ∙ c.if-not-sound.true)

pub sampled-pack-requires : goal.sampled-pack-requires
sampled-pack-requires c = facts_of_sound c.args.s (sym c.sound.ensures ∙ c.if-not-sound.false)

pub returns : goal.returns
unfolding sample_of
returns c = simp (c.sampled-pack.ensures, sym c.sound.ensures ∙ c.if-not-sound.false)
