-- What is promised of sheets of every form. Definitions: assumes nothing.
use Rattle.std.specs.Prelude.{◌≡◌, ◌↔◌, true, List, ℕ, ◌<◌, length}
use Rattle.std.proofs.Math.Option.{some}
use Rattle.rooms.specs.Rooms.{Bytes}
use Rattle.sheet.specs.Sheet.{Entry, Form, sheet_of, allows, is_sheet_of, entries_in, body_in}
use Rattle.sheet_forms.specs.Forms.{SheetOfSome}

-- bytes are a sheet of a form exactly when they are the sheet of some entries that the form may list
abbrev pub SheetExactly : Form → Type 0
SheetExactly f = (s : List ℕ) → Bytes s → (is_sheet_of f s ≡ true) ↔ SheetOfSome f s

-- reading a sheet gives back the very entries, as many as seven bits count
abbrev pub SheetReadBack : Form → Type 0
SheetReadBack f = (es : List Entry) → length es < 128 → entries_in (sheet_of f es) ≡ es

-- different entries give different sheets
abbrev pub SheetOneChoice : Form → Type 0
SheetOneChoice f = (es ds : List Entry) → length es < 128 → length ds < 128 → sheet_of f es ≡ sheet_of f ds → es ≡ ds

-- what a sheet lists, its form allows
abbrev pub SheetAllowed : Form → Type 0
SheetAllowed f = (s : List ℕ) (tag : ℕ) (body : List ℕ) → is_sheet_of f s ≡ true → body_in s tag ≡ some body → allows f.kinds tag (length body) ≡ true
