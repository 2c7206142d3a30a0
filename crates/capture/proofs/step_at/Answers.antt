-- `step_at` meets its contract: each return is a case of the definition. Assumes nothing.
use Rattle.std.proofs.Common.{◌≡◌, ◌+◌, true, arith, sym}
use Rattle.capture.specs.Capture.{fits, mark_in, length_in}
use Rattle.capture.proofs.Check.{in_row}
use Rattle.capture.proofs.Steps.{step_start, step_table, step_most, step_misfit, step_past, step_before, step_long, step_shows}
use Rattle.capture.proofs.step_at.Goals as goal

pub returns-then-is_empty : goal.returns-then-is_empty
returns-then-is_empty c = grind (arith, step_start, step_table, step_most)

pub returns-then-size-bodies : goal.returns-then-size-bodies
returns-then-size-bodies c = sym (step_table _ _ _ (omega arith))

pub returns-then-n-row : goal.returns-then-n-row
returns-then-n-row c = sym (step_past _ _ _ (omega arith) (omega arith) (omega arith) (omega arith))

pub returns-then-not-fits : goal.returns-then-not-fits
returns-then-not-fits c =
    let a = c.args in
    let h = in_row a.s.now a.row (omega arith) in
    sym (step_misfit _ _ _ (omega arith) cc)

pub returns-then-size-next : goal.returns-then-size-next
returns-then-size-next c =
    let a = c.args in
    let h = in_row a.s.now a.row (omega arith) in
    grind (arith, step_before, step_long)

pub returns : goal.returns
returns c =
    let a = c.args in
    let h = in_row a.s.now a.row (omega arith) in
    let next : c.saturating_add-next.result ≡ a.place + length_in a.s.now a.row = omega arith in
    let fit : fits (mark_in a.s.now a.row) (length_in a.s.now a.row) ≡ true = cc in
    rw (h.0, next) (sym (step_shows a.s.now a.row a.place (omega arith) fit (omega arith) (omega arith) (omega arith)))
