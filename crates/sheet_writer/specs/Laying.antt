-- Entries laid into a room one after another. Definitions: assumes nothing.
use Rattle.std.specs.Prelude.{◌≡◌, Bool, true, List, ℕ, ◌+◌, ◌*◌, ◌≤◌, ◌<◌, leb, length}
use Rattle.std.proofs.Math.Option.{Option, none, some}
use Rattle.std.proofs.lemmas.List.Edits.{sets}
use Rattle.sheet.specs.Sheet.{Entry, rows_of, bodies_of}
use Rattle.sheet_writer.specs.declared.Cursor.{Cursor}
use Rattle.sheet_writer.specs.Writing.{short}

-- a body, if there is one, has at most 32 bytes
abbrev pub short_body : Option (List ℕ) → Bool
short_body (some body) = leb (length body) 32
short_body none = true

-- there is place for the entries' rows before the bodies, for their bodies in the room, and for their offsets in two bytes
pub record Place (room : List ℕ) (at : Cursor) (es : List Entry) : Type 0 where
  pub rows : at.row + 4 * length es ≤ at.end
  pub bodies : at.end + length (bodies_of es) ≤ length room
  pub offsets : at.end + length (bodies_of es) < 65536
  pub small : short es ≡ true

-- the room with the entries' rows and bodies
abbrev pub laid : List ℕ → Cursor → List Entry → List ℕ
laid room at es = sets (sets room at.row (rows_of at.end es)) at.end (bodies_of es)

-- the cursor past them
abbrev pub past : Cursor → List Entry → Cursor
past at es = record { row = at.row + 4 * length es; end = at.end + length (bodies_of es) }

-- entries are put into a room at a cursor: the cursor after it, and the room
abbrev pub Put : List ℕ → Cursor → List Entry → List ℕ → Cursor → Type 0
Put room at es after next = (next ≡ past at es) × (after ≡ laid room at es)
