-- `charger::row` meets its contract.
-- Assumes nothing.
use mathlib.Core.Path.{sym, ◌∙◌}
use Rattle.charger.proofs.Rows.{shown, taken, neither}
use Rattle.charger.proofs.row.Goals as goal

pub returns-then-is_shown : goal.returns-then-is_shown
returns-then-is_shown c = sym (shown c.args.command (sym c.is_shown.ensures ∙ c.if-is_shown.true))

pub returns-then-is_taken : goal.returns-then-is_taken
returns-then-is_taken c = sym (taken c.args.command (sym c.is_shown.ensures ∙ c.if-is_shown.false) (sym c.is_taken.ensures ∙ c.if-is_taken.true))

pub returns : goal.returns
returns c = sym (neither c.args.command (sym c.is_shown.ensures ∙ c.if-is_shown.false) (sym c.is_taken.ensures ∙ c.if-is_taken.false))
