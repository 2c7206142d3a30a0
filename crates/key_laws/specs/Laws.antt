-- What is proved of pack keys, over the definitions of the crates `key` and `key_writer`. Assumes nothing: these are definitions.
use Rattle.std.specs.Prelude.{◌≡◌, ◌↔◌, List, [], ◌∷◌, ◌++◌, ℕ, ◌+◌, ◌≤◌, ◌<◌, length, take, replicate, Ok, Err}
use Rattle.std.proofs.Math.Option.{none, some}
use Rattle.refusals.specs.declared.Refusal.TheVariants.{NotAKey}
use Rattle.refusals.specs.Numbers.{answer_of}
use Rattle.rooms.specs.Rooms.{Bytes}
use Rattle.names.specs.Names.{escape, unescaped, name_in}
use Rattle.key.specs.Key.{hex_word, key_of_parts, Parts, PartsFit, IsKey, read_key, read_of, maker_of, device_of, device_start}
use Rattle.key_writer.specs.Writing.{key_wrote, key_room}

-- 1. unescaping an escaped name gives the name
abbrev pub UnescapeEscape : Type 0
UnescapeEscape = (name : List ℕ) → unescaped (escape name) ≡ some name

-- 2. bytes are a key exactly when the reader serves them
abbrev pub ServedIsKey : Type 0
ServedIsKey = (k : List ℕ) → (answer_of (read_of (read_key k)) ≡ 0) ↔ IsKey k

-- bytes that aren't a key are refused as such, and shown as parts of no bytes, the device name's too at their first byte
abbrev pub NotKey : Type 0
NotKey =
    (k : List ℕ) → (IsKey k → ⊥)
    → (read_of (read_key k) ≡ Err NotAKey) × (maker_of (read_key k) ≡ []) × (device_of (read_key k) ≡ [])
    × (device_start (read_key k) ≡ 0)

-- the writer gives the bytes: for some four parts and some room it answers their length and they stand at the room's front
pub record WriterGives (bytes : List ℕ) : Type 0 where
  pub parts : Parts
  pub date-word : parts.date < 65536
  pub serial_word : parts.serial < 65536
  pub room : List ℕ
  pub count : ℕ
  pub served : key_wrote parts.maker parts.device parts.date parts.serial room ≡ Ok count
  pub front : take count (key_room parts.maker parts.device parts.date parts.serial room) ≡ bytes

-- and exactly when the writer gives them for some four parts
abbrev pub IsKeyWritten : Type 0
IsKeyWritten = (k : List ℕ) → IsKey k ↔ WriterGives k

-- whose names are bytes where the key's bytes are
abbrev pub NamesAreBytes : Type 0
NamesAreBytes = (k : List ℕ) (i : IsKey k) → Bytes k → Bytes i.parts.maker × Bytes i.parts.device

-- 3. two packs have equal keys exactly when all four parts agree
abbrev pub SameKey : Type 0
SameKey = (p q : Parts) → PartsFit p → PartsFit q → (key_of_parts p ≡ key_of_parts q) ↔ (p ≡ q)

-- 4. no key begins another
abbrev pub NoKeyBeginsAnother : Type 0
NoKeyBeginsAnother = (k s : List ℕ) → IsKey k → IsKey (k ++ s) → s ≡ []

-- 5. reading what was written gives what was written, and shows the device name where it was written: past the maker and its 2F
abbrev pub ReadWritten : Type 0
ReadWritten =
    (p : Parts) → PartsFit p
    → (read_of (read_key (key_of_parts p)) ≡ Ok (record { date = p.date; serial = p.serial }))
    × (maker_of (read_key (key_of_parts p)) ≡ escape p.maker) × (device_of (read_key (key_of_parts p)) ≡ escape p.device)
    × (device_start (read_key (key_of_parts p)) ≡ length (escape p.maker) + 1)

-- and a reader of keys gets the very names that were put in
abbrev pub NamesBack : Type 0
NamesBack =
    (p : Parts) → PartsFit p
    → (name_in (maker_of (read_key (key_of_parts p))) ≡ some p.maker) × (name_in (device_of (read_key (key_of_parts p))) ≡ some p.device)

-- a part stands for a name exactly when that has up to 32 bytes and the part is what it is escaped to
abbrev pub NameExactly : Type 0
NameExactly = (part name : List ℕ) → (name_in part ≡ some name) ↔ ((length name ≤ 32) × (part ≡ escape name))

-- and for none exactly when no key shows it, as its maker or as its device name
abbrev pub NoneExactly : Type 0
NoneExactly = (part : List ℕ) → (name_in part ≡ none) ↔ ((k : List ℕ) → IsKey k → (maker_of (read_key k) ≡ part → ⊥) × (device_of (read_key k) ≡ part → ⊥))

-- the parts joined with a dash, as they once were
unfoldable pub dashed : Parts → List ℕ
dashed p = p.maker ++ (0x2D ∷ (p.device ++ (0x2D ∷ (hex_word p.date ++ (0x2D ∷ hex_word p.serial)))))

-- two packs of 15 March 2021 with the serial 17: HAZEL, K-12 and HAZEL-K, 12
abbrev pub hazel : Parts
hazel = record { maker = 0x48 ∷ 0x41 ∷ 0x5A ∷ 0x45 ∷ 0x4C ∷ []; device = 0x4B ∷ 0x2D ∷ 0x31 ∷ 0x32 ∷ []; date = 0x526F; serial = 17 }

abbrev pub hazel_k : Parts
hazel_k = record { maker = 0x48 ∷ 0x41 ∷ 0x5A ∷ 0x45 ∷ 0x4C ∷ 0x2D ∷ 0x4B ∷ []; device = 0x31 ∷ 0x32 ∷ []; date = 0x526F; serial = 17 }

-- 6. joined with a dash they merge, and here they have two keys
abbrev pub DashMerges : Type 0
DashMerges = dashed hazel ≡ dashed hazel_k

abbrev pub KeysDiffer : Type 0
KeysDiffer = key_of_parts hazel ≡ key_of_parts hazel_k → ⊥

-- 7. a key has at most 139 bytes
abbrev pub KeyAtMost139 : Type 0
KeyAtMost139 = (k : List ℕ) → IsKey k → length k ≤ 139

-- and that of 32 strokes and 32 escape marks has 139
abbrev pub all_escaped : Parts
all_escaped = record { maker = replicate 32 0x2F; device = replicate 32 0x5C; date = 0; serial = 0 }

abbrev pub SomeKeyOf139 : Type 0
SomeKeyOf139 = IsKey (key_of_parts all_escaped) × (length (key_of_parts all_escaped) ≡ 139)
