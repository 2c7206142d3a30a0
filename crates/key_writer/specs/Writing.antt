-- Document 01, Key: writing a key into a lent room. Assumes nothing: these are definitions.
use Rattle.std.specs.Prelude.{Bool, cond, ◌||◌, List, ℕ, ltb, length, Result, Ok, Err}
use Rattle.refusals.specs.declared.Refusal.{Refusal}
use Rattle.refusals.specs.declared.Refusal.TheVariants.{NoFit}
use Rattle.rooms.specs.Rooms.{placed}
use Rattle.key.specs.Key.{key_of}

-- what the writer refuses: a name over 32 bytes, or a room under 139 (RULES 1.12)
unfoldable pub refused : List ℕ → List ℕ → List ℕ → Bool
refused maker device room = ltb 32 (length maker) || ltb 32 (length device) || ltb (length room) 139

-- the key's length, or the refusal (RULES 1.12)
unfoldable pub key_wrote : List ℕ → List ℕ → ℕ → ℕ → List ℕ → Result ℕ Refusal
key_wrote maker device date serial room =
    cond (refused maker device room) (Err NoFit) (Ok (length (key_of maker device date serial)))

-- the room after writing: the key at its front, and the rest of the room as it was (RULES 2.5)
unfoldable pub key_room : List ℕ → List ℕ → ℕ → ℕ → List ℕ → List ℕ
key_room maker device date serial room =
    cond (refused maker device room) room (placed (key_of maker device date serial) room)
