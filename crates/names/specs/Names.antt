-- A name as a key has it, in the words of document 01, "Key": escaped, read, and read back plain. Assumes nothing: these are definitions.
use Rattle.std.specs.Prelude.{Bool, cond, ◌||◌, List, [], ◌∷◌, ◌++◌, ℕ, eqb, ltb, leb, length, Result, Ok, Err}
use Rattle.std.proofs.Math.Option.{Option, none, some}
use Rattle.refusals.specs.declared.Refusal.{Refusal}
use Rattle.refusals.specs.declared.Refusal.TheVariants.{NoFit, NotAKey}
use Rattle.rooms.specs.Rooms.{placed}

-- ---- a name as the key has it

-- the two bytes that a name has escaped: 2F, which joins the parts, and 5C, the escape mark (RULES 11.2)
abbrev pub marked : ℕ → Bool
marked b = eqb b 0x2F || eqb b 0x5C

-- a byte of a name as the key has it: 2F and 5C are preceded by 5C (RULES 11.2)
abbrev pub escape_byte : ℕ → List ℕ
escape_byte b = cond (marked b) (0x5C ∷ b ∷ []) (b ∷ [])

-- a name as the key has it (RULES 11.2)
abbrev pub escape : List ℕ → List ℕ
escape [] = []
escape (b ∷ s) = escape_byte b ++ escape s

-- ---- reading

-- what reading a name comes to: an escape before any byte but 2F and 5C; a name that the last byte ends; or a name that a bare 2F ends, and the bytes after that
pub data Name : Type 0 where
  bad : Name
  ended : List ℕ → Name
  stopped : List ℕ → List ℕ → Name

-- one byte more in front of the name
abbrev pub push : ℕ → Name → Name
push b bad = bad
push b (ended name) = ended (b ∷ name)
push b (stopped name rest) = stopped (b ∷ name) rest

-- plain reading; an escape mark hands one byte to the escape rule, which hands back to plain reading (RULES 11.3)
abbrev mutual
  pub read_plain : List ℕ → Name
  read_plain [] = ended []
  read_plain (b ∷ s) = cond (eqb b 0x2F) (stopped [] s) (cond (eqb b 0x5C) (read_escaped s) (push b (read_plain s)))

  pub read_escaped : List ℕ → Name
  read_escaped [] = bad
  read_escaped (b ∷ s) = cond (marked b) (push b (read_plain s)) bad

-- ---- a name read back plain

-- the name that was escaped, or none where the bytes are no escaped name
abbrev pub whole : Name → Option (List ℕ)
whole bad = none
whole (ended name) = some name
whole (stopped name rest) = none

unfoldable pub unescaped : List ℕ → Option (List ℕ)
unescaped bytes = whole (read_plain bytes)

-- a name that a key can have: of up to 32 bytes (RULES 1.13)
abbrev pub of_key : Option (List ℕ) → Option (List ℕ)
of_key none = none
of_key (some name) = cond (leb (length name) 32) (some name) none

-- the name that a part of a key stands for, or none where no key shows such a part (RULES 11.6)
unfoldable pub name_in : List ℕ → Option (List ℕ)
name_in part = of_key (unescaped part)

-- how many bytes the plain name has; refused where no key shows such a part, and where the room is shorter than the name (RULES 1.12, 1.13)
abbrev pub plain_wrote : Option (List ℕ) → List ℕ → Result ℕ Refusal
plain_wrote none room = Err NotAKey
plain_wrote (some name) room = cond (ltb (length room) (length name)) (Err NoFit) (Ok (length name))

-- the plain name at the front of the room, and the rest of the room as it was (RULES 2.5)
abbrev pub plain_room : Option (List ℕ) → List ℕ → List ℕ
plain_room none room = room
plain_room (some name) room = cond (ltb (length room) (length name)) room (placed name room)
