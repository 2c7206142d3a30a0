-- Pack sheets: what comes out of each public function, and what must.
-- Assumes nothing.
use Rattle.std.specs.Prelude.{ℕ, Bool, Result, List, [], ◌∷◌}
use Rattle.outcomes.specs.Outcome.{Terms, terms_of}
use Rattle.refusals.specs.declared.Refusal.{Refusal}
use Rattle.sheet.specs.Block.{block_answer, block_of, located_of, part_of, place_of}
use Rattle.sheet.specs.Sheet.{is_sheet}
use Rattle.sheet.specs.declared.Located.{Located}
use Rattle.sheet_edit.specs.Edit.{edit_of, room_after}
use Rattle.sheet_writer.specs.Writing.{choice, given, sheet_room, sheet_wrote}
use Rattle.std.proofs.Math.Option.{none, some}
use Rattle.sheet.specs.contracts.is_sheet as is_sheet_owed
use Rattle.sheet.specs.contracts.locate as locate_owed
use Rattle.sheet.specs.contracts.block_answer as block_answer_owed
use Rattle.sheet.specs.contracts.block as block_owed
use Rattle.sheet_writer.specs.contracts.write_sheet as write_sheet_owed
use Rattle.sheet_edit.specs.contracts.set as set_owed
use Rattle.sheet_edit.specs.contracts.remove as remove_owed

-- `is_sheet`
abbrev pub is_sheet_terms : Terms is_sheet_owed.ended
is_sheet_terms = terms_of
    (Bool ∷ [])
    (λ κs r _. (r, tt))
    (λ κs (bytes, _). (is_sheet bytes.now, tt))

-- `locate`
abbrev pub locate_terms : Terms locate_owed.ended
locate_terms = terms_of
    (Result Located Refusal ∷ [])
    (λ κs r _. (r, tt))
    (λ κs (service, (factory, (tag, _))). (located_of service.now factory.now tag, tt))

-- `block_answer`
abbrev pub block_answer_terms : Terms block_answer_owed.ended
block_answer_terms = terms_of
    (Result (Unit {0}) Refusal ∷ [])
    (λ κs r _. (r, tt))
    (λ κs (service, (factory, _)). (block_answer service.now factory.now, tt))

-- `block`
abbrev pub block_terms : Terms block_owed.ended
block_terms = terms_of
    (List ℕ ∷ (ℕ × ℕ) ∷ [])
    (λ κs r _. (r.now, (r.ref_ptr, tt)))
    (λ κs (service, (factory, (tag, _))). (block_of service.now factory.now tag, (place_of (part_of service.now factory.now tag) service.ref_ptr factory.ref_ptr, tt)))

-- `write_sheet`
abbrev pub write_sheet_terms : Terms write_sheet_owed.ended
write_sheet_terms = terms_of
    (Result ℕ Refusal ∷ List ℕ ∷ [])
    (λ κs r (room, (_, (_, (_, (_, _))))). (r, (room.now, tt)))
    (λ κs (room, (body20, (body21, (body22, (body23, _))))). (sheet_wrote (choice (given body20) (given body21) (given body22) (given body23)) room.now, (sheet_room (choice (given body20) (given body21) (given body22) (given body23)) room.now, tt)))

-- `set`
abbrev pub set_terms : Terms set_owed.ended
set_terms = terms_of
    (Result ℕ Refusal ∷ List ℕ ∷ [])
    (λ κs r (room, (_, (_, (_, _)))). (r, (room.now, tt)))
    (λ κs (room, (stated, (tag, (body, _)))). (edit_of room.now stated tag (some body.now), (room_after room.now stated tag (some body.now), tt)))

-- `remove`
abbrev pub remove_terms : Terms remove_owed.ended
remove_terms = terms_of
    (Result ℕ Refusal ∷ List ℕ ∷ [])
    (λ κs r (room, (_, (_, _))). (r, (room.now, tt)))
    (λ κs (room, (stated, (tag, _))). (edit_of room.now stated tag none, (room_after room.now stated tag none, tt)))
