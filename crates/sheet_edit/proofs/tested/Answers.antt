use native.Mathlib.Omega.{arith}
use Rattle.sheet_edit.proofs.Answers.{past_room, no-sheet, no_name, long-body, no-refusal}
use Rattle.sheet_edit.proofs.tested.Goals.{then-room-stated-via-then-room-stated, then-room-stated-via-else-room-stated+then-not-is_sheet}
use Rattle.sheet_edit.proofs.tested.Goals as goal

pub returns-then-room-stated : goal.returns-then-room-stated
returns-then-room-stated c =
    elim c.then-room-stated.branch [
      | then-room-stated-via-then-room-stated w ↦ past_room _ _ _ _ _ (omega arith)
      | then-room-stated-via-else-room-stated+then-not-is_sheet w ↦ no-sheet _ _ _ _ _ (omega arith) (cc)
    ]

pub returns-then-not-is_name : goal.returns-then-not-is_name
returns-then-not-is_name c = no_name _ _ _ _ _ (omega arith) (cc) (cc)

pub returns-then-size-gt-MOST : goal.returns-then-size-gt-MOST
returns-then-size-gt-MOST c = long-body _ _ _ _ _ (omega arith) (cc) (cc) (omega arith)

pub returns : goal.returns
returns c = no-refusal _ _ _ _ _ (omega arith) (cc) (cc) (omega arith)
