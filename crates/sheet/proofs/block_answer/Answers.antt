use Rattle.sheet.specs.Block.{block_answer}
use Rattle.sheet.proofs.block_answer.Goals as goal
use Rattle.sheet.proofs.block_answer.Goals.{else-is_sheet-via-then-is_sheet+else-is_sheet-2, else-is_sheet-via-else-is_sheet}

pub returns-then-is_sheet-2 : goal.returns-then-is_sheet-2
unfolding block_answer
returns-then-is_sheet-2 c = rw (← c.if-is_sheet.ensures, ← c.if-is_sheet-2.ensures)

pub returns-else-is_sheet : goal.returns-else-is_sheet
unfolding block_answer
returns-else-is_sheet c =
    elim c.else-is_sheet.branch [
      | else-is_sheet-via-then-is_sheet+else-is_sheet-2 w ↦ rw (← w.if-is_sheet.ensures, ← w.if-is_sheet-2.ensures)
      | else-is_sheet-via-else-is_sheet w ↦ rw (← w.if-is_sheet.ensures)
    ]
