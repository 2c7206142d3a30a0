-- A series of edits: the rooms that it leads through, and what each tag has in the end. Definitions: assumes nothing.
use Rattle.std.specs.Prelude.{◌≡◌, Bool, true, cond, ◌&&◌, Result, Ok, Err, List, [], ◌∷◌, ℕ, max, eqb, leb, take}
use Rattle.std.specs.Result.{is_ok}
use Rattle.std.proofs.Math.Option.{Option}
use Rattle.refusals.specs.declared.Refusal.{Refusal}
use Rattle.sheet.specs.Sheet.{Entry, body_in}
use Rattle.sheet_writer.specs.Writing.{choice}
use Rattle.sheet_edit.specs.Edit.{is_name, size_of, edit_of, room_after}

-- an edit: a tag gets a body (set) or none (remove)
pub record Edit : Type 0 where
  pub tag : ℕ
  pub to : Option (List ℕ)

-- a room, and the length of the sheet at its front
pub record Held : Type 0 where
  pub room : List ℕ
  pub stated : ℕ

-- the edit is served
abbrev pub is_served : Edit → Held → Bool
is_served e h = is_ok (edit_of h.room h.stated e.tag e.to)

-- an edit's tag and body pass the tests
abbrev pub is_fit : Edit → Bool
is_fit e = is_name e.tag && leb (size_of e.to) 32

-- the length that an edit tells; of a refused one, the length that there was
abbrev pub told : Result ℕ Refusal → ℕ → ℕ
told (Ok new) stated = new
told (Err reason) stated = stated

-- after an edit the length is the one that it tells; after a refused one it is what it was
abbrev pub next : Edit → Held → Held
next e h = record {
  room = room_after h.room h.stated e.tag e.to;
  stated = told (edit_of h.room h.stated e.tag e.to) h.stated;
}

-- after a series
abbrev pub after : List Edit → Held → Held
after [] h = h
after (e ∷ es) h = after es (next e h)

-- each of its edits is served
abbrev pub AllServed : List Edit → Held → Type 0
AllServed [] h = Unit {0}
AllServed (e ∷ es) h = (is_served e h ≡ true) × AllServed es (next e h)

-- each of its edits passes the tests
abbrev pub AllFit : List Edit → Type 0
AllFit [] = Unit {0}
AllFit (e ∷ es) = (is_fit e ≡ true) × AllFit es

-- the longest sheet on the way, the first and the last with it
abbrev pub longest : List Edit → Held → ℕ
longest [] h = h.stated
longest (e ∷ es) h = max h.stated (longest es (next e h))

-- what each tag has, a body or none
abbrev pub Bodies : Type 0
Bodies = ℕ → Option (List ℕ)

-- the edit's tag has what the edit gives it, every other one what it had
abbrev pub with_edit : Edit → Bodies → Bodies
with_edit e had tag = cond (eqb e.tag tag) e.to (had tag)

-- what each tag has in the end: what the last served edit of it gave, else what it had
abbrev pub finally : List Edit → Held → Bodies → Bodies
finally [] h had = had
finally (e ∷ es) h had = finally es (next e h) (cond (is_served e h) (with_edit e had) had)

-- ---- the same bodies for the writer

-- the writer's choice: a body or none for each of the tags 20, 21, 22 and 23
abbrev pub choice_of : Bodies → List Entry
choice_of has = choice (has 0x20) (has 0x21) (has 0x22) (has 0x23)

-- ---- a held sheet

-- the bytes of the sheet at the front
abbrev pub sheet_in : Held → List ℕ
sheet_in h = take h.stated h.room

-- what each tag has in the end, from what the sheet lists
abbrev pub end_bodies : List Edit → Held → Bodies
end_bodies es h = finally es h (body_in (sheet_in h))
