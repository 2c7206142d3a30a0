-- Edits worked by hand. Definitions: assumes nothing.
use Rattle.std.specs.Prelude.{◌≡◌, Ok, Err, List, [], ◌∷◌, ℕ}
use Rattle.std.proofs.Math.Option.{none, some}
use Rattle.refusals.specs.declared.Refusal.TheVariants.{BadSheet, BadTag, LongSheet}
use Rattle.sheet_edit.specs.Edit.{edit_of, room_after}

-- seven bytes with the empty sheet in the first
abbrev pub seven : List ℕ
seven = 0x00 ∷ 0x99 ∷ 0x99 ∷ 0x99 ∷ 0x99 ∷ 0x99 ∷ 0x99 ∷ []

-- sixteen with a sheet in the first twelve: "A" under 20, "BC" under 22
abbrev pub sixteen : List ℕ
sixteen = 0x02 ∷ 0x20 ∷ 0x01 ∷ 0x09 ∷ 0x00 ∷ 0x22 ∷ 0x02 ∷ 0x0A ∷ 0x00 ∷ 0x41 ∷ 0x42 ∷ 0x43 ∷ 0x99 ∷ 0x99 ∷ 0x99 ∷ 0x99 ∷ []

abbrev pub letters : List ℕ
letters = 0x44 ∷ 0x45 ∷ 0x46 ∷ []

pub record EditsByHand : Type 0 where
  -- into the empty sheet: a row, its body, and what stood behind
  pub added : room_after seven 1 0x21 (some (0x41 ∷ [])) ≡ 0x01 ∷ 0x21 ∷ 0x01 ∷ 0x05 ∷ 0x00 ∷ 0x41 ∷ 0x99 ∷ []
  -- two bytes fill the room, three are too many
  pub fills : edit_of seven 1 0x21 (some (0x41 ∷ 0x42 ∷ [])) ≡ Ok 7
  pub too_many : edit_of seven 1 0x21 (some letters) ≡ Err LongSheet
  -- "DEF" for "A": the later body and its offset move up by two
  pub longer : room_after sixteen 12 0x20 (some letters) ≡ 0x02 ∷ 0x20 ∷ 0x03 ∷ 0x09 ∷ 0x00 ∷ 0x22 ∷ 0x02 ∷ 0x0C ∷ 0x00 ∷ 0x44 ∷ 0x45 ∷ 0x46 ∷ 0x42 ∷ 0x43 ∷ 0x99 ∷ 0x99 ∷ []
  pub longer_by : edit_of sixteen 12 0x20 (some letters) ≡ Ok 14
  -- no byte for "A": the tag stays listed, the later body moves down, a zero takes the freed place
  pub empty : room_after sixteen 12 0x20 (some []) ≡ 0x02 ∷ 0x20 ∷ 0x00 ∷ 0x09 ∷ 0x00 ∷ 0x22 ∷ 0x02 ∷ 0x09 ∷ 0x00 ∷ 0x42 ∷ 0x43 ∷ 0x00 ∷ 0x99 ∷ 0x99 ∷ 0x99 ∷ 0x99 ∷ []
  -- "A" removed: row and body go, five zeros
  pub removed : room_after sixteen 12 0x20 none ≡ 0x01 ∷ 0x22 ∷ 0x02 ∷ 0x05 ∷ 0x00 ∷ 0x42 ∷ 0x43 ∷ 0x00 ∷ 0x00 ∷ 0x00 ∷ 0x00 ∷ 0x00 ∷ 0x99 ∷ 0x99 ∷ 0x99 ∷ 0x99 ∷ []
  pub removed_to : edit_of sixteen 12 0x20 none ≡ Ok 7
  -- what isn't listed, removed
  pub absent : room_after sixteen 12 0x23 none ≡ sixteen
  pub absent_to : edit_of sixteen 12 0x23 none ≡ Ok 12
  -- another length stated, one past the room, another tag
  pub other_length : edit_of sixteen 11 0x20 none ≡ Err BadSheet
  pub past_the_room : edit_of sixteen 17 0x20 none ≡ Err BadSheet
  pub other_tag : edit_of sixteen 12 0x1F none ≡ Err BadTag
