use Rattle.std.proofs.Common.{sym, ◌∙◌, arith}
use borrow.Author.Tests.{leb-true}
use Rattle.std.proofs.lemmas.Bool.{false≢true}
use Rattle.sheet.proofs.Rows.{row-refused, by-offset}
use Rattle.sheet.proofs.row_ok.Goals as goal
use Rattle.sheet.proofs.row_ok.Goals.{then-low-from, else-low-from}

pub returns-then-allowed : goal.returns-then-allowed
returns-then-allowed c =
    elim c.if-low-from.branch [
      | then-low-from w ↦ by-offset _ _ _ _ _ _ (omega arith) (sym w.allowed.ensures ∙ sym w.value-is ∙ c.if-allowed.true) c.offset.ensures.0
      | else-low-from w ↦ absurd (omega (arith, leb-true _ _ (sym w.value-is ∙ c.if-allowed.true)))
    ]

pub returns-else-allowed : goal.returns-else-allowed
returns-else-allowed c =
    rw c.if-allowed.false
    (elim c.if-low-from.branch [
      | then-low-from w ↦ row-refused _ _ _ _ _ (λ r. false≢true (sym (sym w.allowed.ensures ∙ sym w.value-is ∙ c.if-allowed.false) ∙ r.allowed))
      | else-low-from w ↦ row-refused _ _ _ _ _ (λ r. omega (arith, r.least))
    ])
