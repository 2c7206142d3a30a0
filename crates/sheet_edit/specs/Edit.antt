-- Request R-9: what an edit of the sheet in a lent room gives, result and room. Nothing here speaks of moving. Definitions: assumes nothing.
use Rattle.std.specs.Prelude.{Bool, cond, ◌&&◌, Result, Ok, Err, List, [], ◌∷◌, ◌++◌, ℕ, ◌-◌, max, ltb, leb, length, take, drop, replicate}
use Rattle.std.specs.Result.{is_ok}
use Rattle.std.proofs.Math.Option.{Option, none, some}
use Rattle.refusals.specs.declared.Refusal.{Refusal}
use Rattle.refusals.specs.declared.Refusal.TheVariants.{BadSheet, BadTag, LongBody, LongSheet}
use Rattle.sheet.specs.Sheet.{Entry, old, sheet_of, is_sheet, entries_in}

-- ---- the entries

-- those with tags below a tag
unfoldable pub below : ℕ → List Entry → List Entry
below tag [] = []
below tag (e ∷ es) = cond (ltb e.tag tag) (e ∷ below tag es) (below tag es)

-- those with tags above it
unfoldable pub above : ℕ → List Entry → List Entry
above tag [] = []
above tag (e ∷ es) = cond (ltb tag e.tag) (e ∷ above tag es) (above tag es)

-- what an edit puts under a tag: set puts a body there, remove none
abbrev pub entry_for : ℕ → Option (List ℕ) → List Entry
entry_for tag none = []
entry_for tag (some body) = record { tag = tag; body = body } ∷ []

-- the entries after an edit: the tag's own is what the edit puts there, all others are as before (RULES 9.7)
unfoldable pub edited : ℕ → Option (List ℕ) → List Entry → List Entry
edited tag to es = below tag es ++ (entry_for tag to ++ above tag es)

-- ---- the sheet

-- the room's front is a sheet of the stated length
unfoldable pub holds_sheet : List ℕ → ℕ → Bool
holds_sheet room stated = leb stated (length room) && is_sheet (take stated room)

-- the sheet of the entries after the edit (RULES 9.7)
abbrev pub sheet_after : List ℕ → ℕ → ℕ → Option (List ℕ) → List ℕ
sheet_after room stated tag to = sheet_of old (edited tag to (entries_in (take stated room)))

-- ---- the tests

-- the tags of block names
abbrev pub is_name : ℕ → Bool
is_name tag = leb 0x20 tag && leb tag 0x23

-- how many bytes an edit brings
abbrev pub size_of : Option (List ℕ) → ℕ
size_of none = 0
size_of (some body) = length body

-- a refusal unless a test is passed
abbrev pub require : {A : Type 0} → Bool → Refusal → Result A Refusal → Result A Refusal
require passed reason next = cond passed next (Err reason)

-- ---- what comes out

-- refused: no sheet of the stated length at the front; the tag isn't 20 to 23; the body is over 32 bytes; the sheet would be longer than the room; else the new sheet's length (RULES 1.9, 1.18 to 1.20, 9.7, 2.4)
unfoldable pub edit_of : List ℕ → ℕ → ℕ → Option (List ℕ) → Result ℕ Refusal
edit_of room stated tag to =
    require (holds_sheet room stated) BadSheet
    (require (is_name tag) BadTag
    (require (leb (size_of to) 32) LongBody
    (require (leb (length (sheet_after room stated tag to)) (length room)) LongSheet
    (Ok (length (sheet_after room stated tag to))))))

-- a room with a sheet at its front: zeros from there to where the old one ended; then what stood there (RULES 9.8)
unfoldable pub room_with : List ℕ → ℕ → List ℕ → List ℕ
room_with sheet stated room = sheet ++ (replicate (stated - length sheet) 0 ++ drop (max stated (length sheet)) room)

-- the room with the new sheet; or the room as it was (RULES 9.8, 2.3)
unfoldable pub room_after : List ℕ → ℕ → ℕ → Option (List ℕ) → List ℕ
room_after room stated tag to =
    cond (is_ok (edit_of room stated tag to)) (room_with (sheet_after room stated tag to) stated room) room
