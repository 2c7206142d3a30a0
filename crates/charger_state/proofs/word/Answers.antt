-- `charger_state::word` meets its contract.
-- Assumes nothing.
use borrow.Author.Rules.{rules}
use borrow.Author.Tests.{eq-eqb, ne_eqb}
use Rattle.charger_state.proofs.word.Goals as goal

pub returns-then-command-eq17 : goal.returns-then-command-eq17
returns-then-command-eq17 c = simp (eq-eqb _ _ c.if-command-eq17.true)

pub returns : goal.returns
returns c = simp (ne_eqb _ _ c.if-command-eq17.false, c.status.ensures)
