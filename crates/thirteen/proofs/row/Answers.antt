-- `thirteen::row` meets its contract: test by test.
-- Assumes nothing.
use mathlib.Core.Path.{sym, ◌∙◌}
use borrow.Author.Tests.{eq-eqb, ne_eqb}
use Rattle.thirteen.specs.Commands.{thirteen_kind}
use Rattle.thirteen.proofs.row.Goals as goal

pub returns-then-is_word : goal.returns-then-is_word
unfolding thirteen_kind
returns-then-is_word c = simp (sym c.is_word.ensures ∙ c.if-is_word.true)

pub returns-then-command-eq241 : goal.returns-then-command-eq241
unfolding thirteen_kind
returns-then-command-eq241 c = simp (sym c.is_word.ensures ∙ c.if-is_word.false, eq-eqb _ _ c.if-command-eq241.true)

pub returns-then-is_not_built : goal.returns-then-is_not_built
unfolding thirteen_kind
returns-then-is_not_built c =
    simp (
      sym c.is_word.ensures ∙ c.if-is_word.false,
      ne_eqb _ _ c.if-command-eq241.false,
      sym c.is_not_built.ensures ∙ c.if-is_not_built.true,
    )

pub returns : goal.returns
unfolding thirteen_kind
returns c =
    simp (
      sym c.is_word.ensures ∙ c.if-is_word.false,
      ne_eqb _ _ c.if-command-eq241.false,
      sym c.is_not_built.ensures ∙ c.if-is_not_built.false,
    )
