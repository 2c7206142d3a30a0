-- The conditions of document 01's table for each public function, in the table's order. (1 of an area, 2 and 14 of a capture's writer, and 2 and 4 of a shelf's table in bytes are ours: docs/DECISIONS.md.)
-- Assumes nothing.
use Rattle.std.specs.Prelude.{ℕ, Bool, true, false, cond, ◌&&◌, ◌||◌, not, List, [], ◌∷◌, eqb, ltb, length, get_or}
use Rattle.std.proofs.Math.Option.{Option, none, some}
use Rattle.area.specs.Area.{is_area, storable}
use Rattle.bus.specs.Transact.{pack_side}
use Rattle.capture.specs.Capture.{is_capture}
use Rattle.capture.specs.Walk.{seen_bad}
use Rattle.capture_writer.specs.Writer.{given_fit, room_asked}
use Rattle.charger_state.specs.Charger as charger
use Rattle.charger.specs.Transact.{charger_side}
use Rattle.charger_state.specs.declared.Charger.{Charger}
use Rattle.charger_area.specs.Area.{charger_length, is_charger_area}
use Rattle.commands.specs.Answers.{Side, bare}
use Rattle.commands.specs.Commands.{is_reserved, is_optional, is_read_only, is_write_only, is_block}
use Rattle.commands.specs.declared.Kind.{Kind}
use Rattle.frame.specs.Transactions.{foreign, misshapen, miscoded}
use Rattle.gauge_laws.specs.Minutes.{is_ten}
use Rattle.names.specs.Names.{name_in}
use Rattle.key.specs.Key.{read_key}
use Rattle.pack.specs.Sound.{sound_of}
use Rattle.start.specs.declared.Setup.{Setup}
use Rattle.pack.specs.declared.State.{State}
use Rattle.sheet.specs.Block.{good_sheets}
use Rattle.sheet.specs.Sheet.{Entry}
use Rattle.sheet_edit.specs.Edit.{holds_sheet, sheet_after, is_name, size_of}
use Rattle.sheet_writer.specs.Writing.{short}
use Rattle.shelf.specs.Shelf.{any_bad}
use Rattle.shelf.specs.declared.Row.{Row}
use Rattle.shelf_table.specs.Table.{rows_in, is_ragged}
use Rattle.thirteen.specs.Transact.{thirteen_side}
use Rattle.thirteen_area.specs.Area as thirteen_area
use Rattle.thirteen_area.specs.Area.{is_thirteen_area}
use Rattle.thirteen_laws.specs.Rows.{is_cut_off}
use Rattle.thirteen_pack.specs.Sound as thirteen
use Rattle.thirteen_pack.specs.declared.ThirteenState.{ThirteenState}
use Rattle.answers.specs.Lowest.{Condition, ◌when◌}

-- ---- transactions

-- the command of a transaction's bytes
abbrev pub command_of : List ℕ → ℕ
command_of bytes = get_or bytes 1 0

-- 8, by the driver's mark: a read of a write-only command, or a write to a read-only one (RULES 1.8)
abbrev pub is_denied : Bool → Kind → Bool
is_denied read k = cond read (is_write_only k) (is_read_only k)

-- of any side of the bus. 1: state isn't sound; 2: lent reply room too short; 3: empty, or first byte isn't the address's; 4: wrong size or form, or a write
-- without PEC where it must carry one; 5: five-byte write, PEC wrong; 6: reserved command; 7: optional command not built; 8: denied; 9: block read that isn't
-- good; 10: a read that is cut off (RULES 1.1 to 1.10, 15.2)
abbrev pub side_conditions : Side → Bool → List ℕ → ℕ → Bool → Bool → List Condition
side_conditions d read bytes room good cut =
    (1 when not d.sound)
    ∷ (2 when ltb room d.least)
    ∷ (3 when foreign d.address bytes)
    ∷ (4 when (misshapen d.address read bytes || (not read && bare d (eqb (length bytes) 5))))
    ∷ (5 when miscoded read bytes)
    ∷ (6 when is_reserved (d.kinds (command_of bytes)))
    ∷ (7 when is_optional (d.kinds (command_of bytes)))
    ∷ (8 when is_denied read (d.kinds (command_of bytes)))
    ∷ (9 when (read && (is_block (d.kinds (command_of bytes)) && not good)))
    ∷ (10 when (read && cut))
    ∷ []

-- of the pack: blocks are good where both sheets are; cut off are AtRateTimeToFull in power mode and a time beyond the range (RULES 1.9, 1.10)
abbrev pub transact_conditions : State → List ℕ → List ℕ → Bool → List ℕ → ℕ → List Condition
transact_conditions s service factory read bytes room =
    side_conditions (pack_side s service factory) read bytes room (good_sheets service factory) (is_ten s.pack (command_of bytes))

-- ---- the state

-- 11: design capacity, full capacity or design voltage 0, or remaining above full (RULES 1.11)
abbrev pub set_up_conditions : Setup → List Condition
set_up_conditions u = (11 when (eqb u.DesignCapacity 0 || eqb u.full 0 || eqb u.DesignVoltage 0 || ltb u.full u.remaining)) ∷ []

-- 1: state isn't sound; 2: broadcast room under 20 bytes, under 16 in plain (RULES 1.1, 1.2)
abbrev pub sample_conditions : State → ℕ → List Condition
sample_conditions s room = (1 when not (sound_of s)) ∷ (2 when ltb room (cond s.pack.settings.plain 16 20)) ∷ []

-- 1: bytes are no area (RULES 1.1)
abbrev pub load_conditions : List ℕ → List Condition
load_conditions area = (1 when not (is_area area)) ∷ []

-- 1: the room isn't one for an area, or the count of kept seconds isn't a byte (RULES 1.1)
abbrev pub store_conditions : State → List ℕ → List Condition
store_conditions s room = (1 when not (storable s room)) ∷ []

-- ---- the charger

-- of the charger: it has no block, and nothing is cut off (RULES 14.1)
abbrev pub charger_transact_conditions : Charger → Bool → List ℕ → ℕ → List Condition
charger_transact_conditions s read bytes room = side_conditions (charger_side s) read bytes room true false

-- 1: state isn't sound (RULES 1.1)
abbrev pub charger_sample_conditions : Charger → List Condition
charger_sample_conditions s = (1 when not (charger.sound_of s)) ∷ []

-- 1: bytes are no area of a charger (RULES 14.12)
abbrev pub charger_load_conditions : List ℕ → List Condition
charger_load_conditions area = (1 when not (is_charger_area area)) ∷ []

-- 1: the room isn't one for such an area (RULES 14.12)
abbrev pub charger_store_conditions : List ℕ → List Condition
charger_store_conditions room = (1 when not (eqb (length room) charger_length)) ∷ []

-- ---- the thirteen-cell pack

-- its block is always good; cut off are 11 and 13 beyond the range (RULES 15.1, 15.2, 15.7)
abbrev pub thirteen_transact_conditions : ThirteenState → Bool → List ℕ → ℕ → List Condition
thirteen_transact_conditions s read bytes room = side_conditions (thirteen_side s) read bytes room true (is_cut_off s.pack (command_of bytes))

-- 1: state isn't sound (RULES 15.5)
abbrev pub thirteen_sample_conditions : ThirteenState → List Condition
thirteen_sample_conditions s = (1 when not (thirteen.sound_of s)) ∷ []

-- 1: bytes are no area of such a pack (RULES 15.12)
abbrev pub thirteen_load_conditions : List ℕ → List Condition
thirteen_load_conditions area = (1 when not (is_thirteen_area area)) ∷ []

-- 1: the room isn't one for such an area, or the count of kept seconds isn't a byte (RULES 15.12)
abbrev pub thirteen_store_conditions : ThirteenState → List ℕ → List Condition
thirteen_store_conditions s room = (1 when not (thirteen_area.storable s room)) ∷ []

-- ---- keys, sheets, captures

-- there is none
abbrev pub is_none : {A : Type 0} → Option A → Bool
is_none none = true
is_none (some x) = false

-- there is one, and it is longer than the room
abbrev pub overflows : Option (List ℕ) → List ℕ → Bool
overflows none room = false
overflows (some name) room = ltb (length room) (length name)

-- 12: a name over 32 bytes, room under 139 (RULES 1.12)
abbrev pub write_key_conditions : List ℕ → List ℕ → List ℕ → List Condition
write_key_conditions maker device room = (12 when (ltb 32 (length maker) || ltb 32 (length device) || ltb (length room) 139)) ∷ []

-- 13: bytes aren't a key (RULES 1.13)
abbrev pub read_key_conditions : List ℕ → List Condition
read_key_conditions bytes = (13 when is_none (read_key bytes)) ∷ []

-- 12: the room is too short for the name; 13: no key shows such a part (RULES 1.12, 1.13)
abbrev pub unescape_conditions : List ℕ → List ℕ → List Condition
unescape_conditions part room = (12 when overflows (name_in part) room) ∷ (13 when is_none (name_in part)) ∷ []

-- 9: a sheet is bad (RULES 1.9)
abbrev pub block_conditions : List ℕ → List ℕ → List Condition
block_conditions service factory = (9 when not (good_sheets service factory)) ∷ []

-- 12: a body over 32 bytes, room under 145 (RULES 1.12)
abbrev pub write_sheet_conditions : List Entry → List ℕ → List Condition
write_sheet_conditions es room = (12 when (not (short es) || ltb (length room) 145)) ∷ []

-- 9: no sheet of the stated length at the room's front; 18: the tag isn't 20 to 23; 19: the body is over 32 bytes; 20: the sheet would be longer than the room (RULES 1.9, 1.18 to 1.20)
abbrev pub edit_conditions : List ℕ → ℕ → ℕ → Option (List ℕ) → List Condition
edit_conditions room stated tag to =
    (9 when not (holds_sheet room stated))
    ∷ (18 when not (is_name tag))
    ∷ (19 when ltb 32 (size_of to))
    ∷ (20 when ltb (length room) (length (sheet_after room stated tag to)))
    ∷ []

-- 14: bytes aren't a capture (RULES 1.14)
abbrev pub capture_conditions : List ℕ → List Condition
capture_conditions bytes = (14 when not (is_capture bytes)) ∷ []

-- 14: a step sees that bytes aren't a capture (RULES 1.14)
abbrev pub step_conditions : List ℕ → ℕ → ℕ → List Condition
step_conditions bytes row place = (14 when seen_bad bytes row place) ∷ []

-- 2: room too short for the capture; 14: no rows of a capture (RULES 1.2, 1.14)
abbrev pub write_capture_conditions : List ℕ → List ℕ → List ℕ → List ℕ → List Condition
write_capture_conditions marks sizes bodies room = (2 when ltb (length room) (room_asked marks sizes bodies)) ∷ (14 when not (given_fit marks sizes bodies)) ∷ []

-- ---- PEC

-- 15: outside 2 to 37 bytes (RULES 1.15)
abbrev pub exchange_conditions : List ℕ → List Condition
exchange_conditions bytes = (15 when (ltb (length bytes) 2 || ltb 37 (length bytes))) ∷ []

-- 15: unequal lengths or over 37 (RULES 1.15)
abbrev pub comparison_conditions : List ℕ → List ℕ → List Condition
comparison_conditions xs ys = (15 when (not (eqb (length xs) (length ys)) || ltb 37 (length xs))) ∷ []

-- ---- the shelf

-- 16: more than 64 rows; 17: a row is bad (RULES 1.16, 1.17)
abbrev pub report_conditions : List Row → List Condition
report_conditions rows = (16 when ltb 64 (length rows)) ∷ (17 when any_bad rows) ∷ []

-- 2: room under 16 bytes; 4: a table that isn't whole rows; 16 and 17 by its rows (RULES 1.2, 1.4)
abbrev pub table_conditions : List ℕ → List ℕ → List Condition
table_conditions table room = (2 when ltb (length room) 16) ∷ (4 when is_ragged table) ∷ report_conditions (rows_in table)
