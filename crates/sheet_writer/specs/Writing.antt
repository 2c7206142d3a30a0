-- Document 01, Pack sheet and capture: what writing a sheet gives, its length or the refusal, and the room. Definitions: assumes nothing.
use denote.Bor.{Bor}
use Rattle.std.specs.Prelude
use Rattle.std.specs.Prelude.{Bool, true, cond, ◌&&◌, Some, None, Result, Ok, Err, List, [], ◌∷◌, ◌++◌, ℕ, leb, length}
use Rattle.std.proofs.Math.Option.{Option, none, some}
use Rattle.refusals.specs.declared.Refusal.{Refusal}
use Rattle.refusals.specs.declared.Refusal.TheVariants.{NoFit}
use Rattle.rooms.specs.Rooms.{placed}
use Rattle.sheet.specs.Sheet.{Entry, old, sheet_of}

-- a lent body's bytes, or none
abbrev pub given : Prelude.Option (Bor (List ℕ)) → Option (List ℕ)
given (Some body) = some body.now
given None = none

-- the entry of a tag that gets a body, and none of one that doesn't (RULES 9.4)
abbrev pub entry_if : ℕ → Option (List ℕ) → List Entry
entry_if tag (some body) = record { tag = tag; body = body } ∷ []
entry_if tag none = []

-- the entries of a body or none for each of the tags 20, 21, 22 and 23 (RULES 9.4)
abbrev pub choice : Option (List ℕ) → Option (List ℕ) → Option (List ℕ) → Option (List ℕ) → List Entry
choice body20 body21 body22 body23 = entry_if 0x20 body20 ++ (entry_if 0x21 body21 ++ (entry_if 0x22 body22 ++ entry_if 0x23 body23))

-- no body is over 32 bytes
abbrev pub short : List Entry → Bool
short [] = true
short (e ∷ es) = leb (length e.body) 32 && short es

-- they are written, unless a body is over 32 bytes or the room under 145 (RULES 1.12)
unfoldable pub writable : List Entry → List ℕ → Bool
writable es room = short es && leb 145 (length room)

-- the sheet's length; or refused (RULES 1.12, 9.4)
unfoldable pub sheet_wrote : List Entry → List ℕ → Result ℕ Refusal
sheet_wrote es room = cond (writable es room) (Ok (length (sheet_of old es))) (Err NoFit)

-- the sheet at the front and the rest of the room as it was; or the room as it was (RULES 2.5)
unfoldable pub sheet_room : List Entry → List ℕ → List ℕ
sheet_room es room = cond (writable es room) (placed (sheet_of old es) room) room
