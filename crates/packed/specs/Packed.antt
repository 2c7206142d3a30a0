-- Results of several numbers in one: the answer number in the low byte, the rest above it. Definitions: assumes nothing.
use Rattle.std.specs.Prelude
use Rattle.std.specs.Prelude.{Bool, cond, ℕ, ◌+◌, ◌*◌, ◌-◌, ◌≤◌, ◌<◌, length, Some, None, Result, Ok, Err}
use Rattle.std.proofs.Math.Option.{Option, none, some}
use Rattle.capture.specs.Capture.{capture_most}
use Rattle.capture.specs.Walk.{Shows}
use Rattle.capture.specs.declared.Opened.{Opened}
use Rattle.capture.specs.declared.Step.{Step}
use Rattle.key.specs.Key.{Parts, found_of}
use Rattle.key.specs.declared.Found.{Found}
use Rattle.refusals.specs.Numbers.{number_of, answer_of}
use Rattle.refusals.specs.declared.Refusal.{Refusal}
use Rattle.sheet.specs.declared.Located.{Located}

-- an answer, and a number above it (RULES 12.3)
abbrev pub packed : ℕ → ℕ → ℕ
packed answer above = answer + 256 * above

-- a refusal: its number, and 0 above it (RULES 2.4)
abbrev pub refused : Refusal → ℕ
refused reason = packed (number_of reason) 0

-- 1 for true and 0 for false
abbrev pub one_if : Bool → ℕ
one_if b = cond b 1 0

-- ---- four bytes

-- of the exchange check: right
abbrev pub check_number : Result Bool Refusal → ℕ
check_number (Ok right) = packed 0 (one_if right)
check_number (Err reason) = refused reason

-- of the bit comparison: bits
abbrev pub comparison_number : Result ℕ Refusal → ℕ
comparison_number (Ok bits) = packed 0 bits
comparison_number (Err reason) = refused reason

-- of a key, a name or a sheet written, and of an edit: length
abbrev pub wrote_number : Result ℕ Refusal → ℕ
wrote_number (Ok length) = packed 0 length
wrote_number (Err reason) = refused reason

-- of a capture opened: rows, place of the first body
abbrev pub opened_number : Result Opened Refusal → ℕ
opened_number (Ok o) = packed 0 (o.rows + 256 * o.place)
opened_number (Err reason) = refused reason

-- ---- eight bytes

-- of a key read: lengths of the maker part and of the device part, date, serial
abbrev pub key_number : Result Found Refusal → ℕ
key_number (Ok f) = packed 0 (f.maker_end + 256 * (f.device_end - f.device_start) + 65536 * f.date + 4294967296 * f.serial)
key_number (Err reason) = refused reason

abbrev pub read_number : Option Parts → ℕ
read_number o = key_number (found_of o)

-- of a block name: length, offset, 1 for the factory sheet
abbrev pub located_number : Result Located Refusal → ℕ
located_number (Ok l) = packed 0 (l.end - l.start + 256 * l.start + 16777216 * one_if l.factory)
located_number (Err reason) = refused reason

-- what is shown of a row at a place: 1 for a row, its mark, its body's length, the next place; where there is none 0
abbrev pub shown_of_row : ℕ → Shows → ℕ
shown_of_row place (Ok (Some step)) = 1 + 2 * step.mark + 256 * (step.place - place) + 16777216 * step.place
shown_of_row place (Ok None) = 0
shown_of_row place (Err reason) = 0

-- of a step from a place: the step's own number, what is shown of the row
abbrev pub step_number : ℕ → Shows → ℕ
step_number place step = packed (answer_of step) (shown_of_row place step)

-- ---- what has room above an answer

-- rows and a place in the longest capture
abbrev pub OpenedFits : Opened → Type 0
OpenedFits o = (o.rows < 256) × (o.place < 65536)

-- a maker part and a device part whose lengths fit
abbrev pub FoundFits : Found → Type 0
FoundFits f = (f.maker_end < 256) × (f.device_start ≤ f.device_end) × (f.device_end - f.device_start < 256)

-- a part within the longest sheet
abbrev pub LocatedFits : Located → Type 0
LocatedFits l = (l.start ≤ l.end) × (l.end < 256)

-- a body that starts at a place and ends within the longest capture
abbrev pub RowFits : ℕ → Shows → Type 0
RowFits place (Ok (Some step)) = (place ≤ step.place) × (step.place ≤ capture_most)
RowFits place (Ok None) = Unit {0}
RowFits place (Err reason) = Unit {0}
