-- `thirteen_pack::set_up` meets its contract: refused, or the pack that set-up gives.
-- Assumes nothing.
use mathlib.Core.Path.{◌∙◌, sym}
use borrow.Author.Rules.{rules}
use Rattle.start.proofs.Conditions.{served}
use Rattle.thirteen_pack.specs.SetUp.{set_up_of}
use Rattle.thirteen_pack.proofs.set_up.Goals as goal

pub returns-then-refused : goal.returns-then-refused
unfolding set_up_of
returns-then-refused c = simp (c.zero-none.ensures, ← c.refused.ensures, c.if-refused.true)

pub pack_of-pack-requires : goal.pack_of-pack-requires
pack_of-pack-requires c = let f = served c.args.u (sym c.refused.ensures ∙ c.if-refused.false) in (f.full, f.remaining)

pub returns : goal.returns
unfolding set_up_of
returns c = simp (c.pack_of-pack.ensures, ← c.refused.ensures, c.if-refused.false)
