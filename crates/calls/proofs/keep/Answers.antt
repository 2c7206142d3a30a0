-- `calls::keep` meets its contract.
-- Assumes nothing.
use mathlib.Core.Path.{◌∙◌}
use borrow.Author.Tests.{eq-eqb, ne_eqb}
use Rattle.calls.proofs.Areas.{stored}
use Rattle.calls.proofs.keep.Goals as goal

pub returns-then-answer-eq1 : goal.returns-then-answer-eq1
returns-then-answer-eq1 c = rw (eq-eqb _ _ c.if-answer-eq1.true)

pub returns-then-answer-eq2 : goal.returns-then-answer-eq2
returns-then-answer-eq2 c = rw (ne_eqb _ _ c.if-answer-eq1.false, eq-eqb _ _ c.if-answer-eq2.true)

pub returns : goal.returns
returns c =
    let one = ne_eqb _ _ c.if-answer-eq1.false in
    let two = ne_eqb _ _ c.if-answer-eq2.false in
    rw (one, two) (c.store.ensures.memory ∙ stored c.args.state c.args.area.now c.requires.0 (c.requires.1 (rw (one, two))))
