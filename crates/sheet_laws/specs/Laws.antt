-- What is promised of sheets and their writer. Definitions: assumes nothing.
use Rattle.std.specs.Prelude.{◌≡◌, ◌↔◌, true, List, [], ℕ}
use Rattle.std.proofs.Math.Option.{Option, get_or}
use Rattle.rooms.specs.Rooms.{Bytes}
use Rattle.sheet.specs.Sheet.{Entry, old, sheet_of, is_sheet, among, body_in}
use Rattle.sheet.specs.Block.{block_of}
use Rattle.sheet_writer.specs.Writing.{choice}
use Rattle.sheet_forms.specs.Forms.{listable}
use Rattle.sheet_laws.specs.Written.{Written, given_to}

-- bytes are a sheet exactly when the writer gives them for some choice
abbrev pub SheetWritten : Type 0
SheetWritten = (s : List ℕ) → Bytes s → (is_sheet s ≡ true) ↔ Written s

-- reading a tag of a written sheet gives the very body that the writer got for it, or none
abbrev pub SheetBodyBack : Type 0
SheetBodyBack = (tag : ℕ) (body20 body21 body22 body23 : Option (List ℕ))
    → body_in (sheet_of old (choice body20 body21 body22 body23)) tag ≡ given_to tag body20 body21 body22 body23

-- a block name is the body that the service sheet lists, else the one that the factory sheet lists, else no bytes
abbrev pub SheetNamed : Type 0
SheetNamed = (service factory : List ℕ) (tag : ℕ) → is_sheet service ≡ true → is_sheet factory ≡ true
    → block_of service factory tag ≡ get_or (body_in service tag) (get_or (body_in factory tag) [])

-- of two sheets that were made of entries: the body among the entries
abbrev pub SheetNamedBack : Type 0
SheetNamedBack = (es ds : List Entry) (tag : ℕ) → listable old.kinds 0 es ≡ true → listable old.kinds 0 ds ≡ true
    → block_of (sheet_of old es) (sheet_of old ds) tag ≡ get_or (among tag es) (get_or (among tag ds) [])
