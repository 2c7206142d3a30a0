-- What is promised of edits. Definitions: assumes nothing.
use Rattle.std.specs.Prelude.{◌≡◌, ◌↔◌, true, cond, Ok, Err, IsOk, List, [], ◌∷◌, ℕ, ◌-◌, max, ◌≤◌, ◌<◌, eqb, length, take, drop, replicate}
use Rattle.std.proofs.Math.Option.{Option, none, some, get_or}
use Rattle.refusals.specs.declared.Refusal.TheVariants.{LongSheet}
use Rattle.rooms.specs.Rooms.{Bytes}
use Rattle.sheet.specs.Sheet.{old, sheet_of, is_sheet, entries_in, body_in}
use Rattle.sheet.specs.Block.{block_of}
use Rattle.sheet_writer.specs.Writing.{sheet_wrote, sheet_room}
use Rattle.sheet_edit.specs.Edit.{edited, holds_sheet, sheet_after, is_name, size_of, edit_of, room_with, room_after}
use Rattle.edit_laws.specs.Series.{Edit, Held, AllFit, AllServed, after, longest, choice_of, sheet_in, end_bodies}

-- ---- one edit

-- a room of bytes, and an edit of the sheet at its front that is served: what holds of the room that is left, and of the length that is told
abbrev pub Served : ((room : List ℕ) (stated tag : ℕ) (to : Option (List ℕ)) (left : List ℕ) (new : ℕ) → Type 0) → Type 0
Served P = (room : List ℕ) (stated tag : ℕ) (to : Option (List ℕ)) (new : ℕ) → Bytes room → edit_of room stated tag to ≡ Ok new
    → P room stated tag to (room_after room stated tag to) new

-- the front is a sheet, so without gaps, and it lists exactly the edited entries
abbrev pub EditLists : Type 0
EditLists = Served (λ room stated tag to left new.
    (holds_sheet left new ≡ true) × (entries_in (take new left) ≡ edited tag to (entries_in (take stated room))))

-- the edit's tag reads as the body that was set, or as none; every other tag reads as before
abbrev pub EditReads : Type 0
EditReads = Served (λ room stated tag to left new.
    (t : ℕ) → body_in (take new left) t ≡ cond (eqb tag t) to (body_in (take stated room) t))

-- the pack's block name of the tag is then the body that was set; where it was removed, the factory sheet's
abbrev pub EditNamed : Type 0
EditNamed = Served (λ room stated tag to left new.
    (factory : List ℕ) → is_sheet factory ≡ true → block_of (take new left) factory tag ≡ get_or to (get_or (body_in factory tag) []))

-- the room keeps its length; within the old sheet zeros follow the new one; beyond both all is as it was
abbrev pub EditBehind : Type 0
EditBehind = Served (λ room stated tag to left new.
    (length left ≡ length room) × (take (stated - new) (drop new left) ≡ replicate (stated - new) 0)
    × (drop (max stated new) left ≡ drop (max stated new) room))

-- an edit that leaves room and length as they are
abbrev pub Nothing : List ℕ → ℕ → ℕ → Option (List ℕ) → Type 0
Nothing room stated tag to = (edit_of room stated tag to ≡ Ok stated) × (room_after room stated tag to ≡ room)

-- setting what is there changes nothing
abbrev pub SetNothing : Type 0
SetNothing = (room : List ℕ) (stated tag : ℕ) (body : List ℕ) → Bytes room → holds_sheet room stated ≡ true → body_in (take stated room) tag ≡ some body
    → Nothing room stated tag (some body)

-- nor does removing a name that isn't there
abbrev pub RemoveNothing : Type 0
RemoveNothing = (room : List ℕ) (stated tag : ℕ) → Bytes room → holds_sheet room stated ≡ true → is_name tag ≡ true → body_in (take stated room) tag ≡ none
    → Nothing room stated tag none

-- an edit that passes the other tests is refused exactly when the new sheet is longer than the room
abbrev pub EditTwenty : Type 0
EditTwenty = (room : List ℕ) (stated tag : ℕ) (to : Option (List ℕ)) → holds_sheet room stated ≡ true → is_name tag ≡ true → size_of to ≤ 32
    → (edit_of room stated tag to ≡ Err LongSheet) ↔ (length room < length (sheet_after room stated tag to))

-- so never in a room of 145 bytes
abbrev pub EditRoomEnough : Type 0
EditRoomEnough = (room : List ℕ) (stated tag : ℕ) (to : Option (List ℕ)) → Bytes room → 145 ≤ length room → holds_sheet room stated ≡ true → is_name tag ≡ true → size_of to ≤ 32
    → IsOk (edit_of room stated tag to)

-- nor to a removal
abbrev pub RemoveServed : Type 0
RemoveServed = (room : List ℕ) (stated tag : ℕ) → Bytes room → holds_sheet room stated ≡ true → is_name tag ≡ true → IsOk (edit_of room stated tag none)

-- ---- several

-- any series leaves the sheet of the final bodies; zeros behind it, to where the longest sheet on the way ended; then what stood there
abbrev pub SeriesLeaves : Type 0
SeriesLeaves = (es : List Edit) (h : Held) → Bytes h.room → holds_sheet h.room h.stated ≡ true
    → ((after es h).stated ≡ length (sheet_of old (choice_of (end_bodies es h))))
    × ((after es h).room ≡ room_with (sheet_of old (choice_of (end_bodies es h))) (longest es h) h.room)

-- byte for byte the sheet that the writer gives for the final bodies, in any room of 145 bytes or more
abbrev pub SeriesAfresh : Type 0
SeriesAfresh = (es : List Edit) (h : Held) (fresh : List ℕ) → Bytes h.room → holds_sheet h.room h.stated ≡ true → 145 ≤ length fresh
    → (sheet_wrote (choice_of (end_bodies es h)) fresh ≡ Ok (after es h).stated)
    × (take (after es h).stated (sheet_room (choice_of (end_bodies es h)) fresh) ≡ sheet_in (after es h))

-- in a room of 145 bytes a series of edits whose tags and bodies pass the tests is served throughout
abbrev pub SeriesServed : Type 0
SeriesServed = (es : List Edit) (h : Held) → Bytes h.room → holds_sheet h.room h.stated ≡ true → 145 ≤ length h.room → AllFit es → AllServed es h

-- two edits on different tags give the same sheet in either order, where both orders are served
abbrev pub EditsCommute : Type 0
EditsCommute = (d e : Edit) (h : Held) → Bytes h.room → holds_sheet h.room h.stated ≡ true → (d.tag ≡ e.tag → ⊥)
    → AllServed (d ∷ e ∷ []) h → AllServed (e ∷ d ∷ []) h
    → ((after (d ∷ e ∷ []) h).stated ≡ (after (e ∷ d ∷ []) h).stated) × (sheet_in (after (d ∷ e ∷ []) h) ≡ sheet_in (after (e ∷ d ∷ []) h))
