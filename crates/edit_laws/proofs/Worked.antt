-- The edits worked by hand: computed. Assumes nothing.
use mathlib.Core.Path.{refl}
use Rattle.sheet.specs.Sheet.{old, sheet_of, allows, row_ok, rows_ok, is_sheet_of, entries_from}
use Rattle.sheet_edit.specs.Edit.{below, above, edited, holds_sheet, edit_of, room_with, room_after}
use Rattle.edit_laws.specs.Worked.{EditsByHand}

pub edits_by_hand : EditsByHand
unfolding old sheet_of allows row_ok rows_ok is_sheet_of entries_from below above edited holds_sheet edit_of room_with room_after
edits_by_hand =
    record {
      added = refl;
      fills = refl;
      too_many = refl;
      longer = refl;
      longer_by = refl;
      empty = refl;
      removed = refl;
      removed_to = refl;
      absent = refl;
      absent_to = refl;
      other_length = refl;
      past_the_room = refl;
      other_tag = refl;
    }
