-- `calls::keep_transacted` meets its contract.
-- Assumes nothing.
use mathlib.Core.Path.{sym, ◌∙◌}
use Rattle.calls.proofs.Stores.{stores_parts, stores_nothing, stores_error}
use Rattle.calls.proofs.keep_transacted.Goals as goal

pub returns-then-answer-read : goal.returns-then-answer-read
returns-then-answer-read c = c.keep_write.ensures ∙ sym (stores_parts _ _ _ _ c.if-answer-read.true)

pub returns-then-answer : goal.returns-then-answer
returns-then-answer c = sym (stores_nothing _ _ _ _ c.if-answer-read.false c.if-answer.true)

pub returns : goal.returns
returns c =
    c.keep_error.ensures ∙ sym (stores_error _ _ _ _ c.if-answer-read.false c.if-answer.false)
