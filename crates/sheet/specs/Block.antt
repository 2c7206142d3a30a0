-- Document 01, Pack sheet and capture: which part of which sheet is shown as a block name. Definitions: assumes nothing.
use Rattle.std.specs.Prelude.{Bool, true, false, cond, ◌&&◌, Option, Some, None, Result, Ok, Err, List, ℕ, zero, suc, ◌+◌, eqb}
use Rattle.refusals.specs.declared.Refusal.{Refusal}
use Rattle.refusals.specs.declared.Refusal.TheVariants.{BadSheet}
use Rattle.sheet.specs.declared.Span.{Span}
use Rattle.sheet.specs.declared.Located.{Located}
use Rattle.rooms.specs.Rooms.{between, further}
use Rattle.sheet.specs.Sheet.{tag_at, length_at, offset_at, rows_listed, is_sheet}

-- where the body of a tag lies, from its first byte to past its last, by the first of n rows from byte `at` on that has the tag
unfoldable pub find_row : ℕ → List ℕ → ℕ → ℕ → Option Span
find_row zero s at tag = None
find_row (suc n) s at tag = cond (eqb (tag_at s at) tag) (Some (record { start = offset_at s at; end = offset_at s at + length_at s at })) (find_row n s (at + 4) tag)

-- the same, by the rows of a sheet
abbrev pub find_in : List ℕ → ℕ → Option Span
find_in s tag = find_row (rows_listed s) s 1 tag

-- a part, from its first byte to past its last, of the service sheet or of the factory sheet
pub data Part : Type 0 where
  of_service of_factory : ℕ → ℕ → Part

-- the service sheet's if listed there, else the factory sheet's; listed in neither: no bytes of the factory sheet (RULES 9.6)
abbrev pub first_of : Option Span → Option Span → Part
first_of (Some x) other = of_service x.start x.end
first_of None (Some x) = of_factory x.start x.end
first_of None None = of_factory 0 0

-- both are sheets
abbrev pub good_sheets : List ℕ → List ℕ → Bool
good_sheets service factory = is_sheet service && is_sheet factory

-- the part that is shown; of a bad sheet no bytes of the factory sheet (RULES 9.5)
unfoldable pub part_of : List ℕ → List ℕ → ℕ → Part
part_of service factory tag = cond (good_sheets service factory) (first_of (find_in service tag) (find_in factory tag)) (of_factory 0 0)

-- a part's bytes
abbrev pub part_bytes : Part → List ℕ → List ℕ → List ℕ
part_bytes (of_service a e) service factory = between service a e
part_bytes (of_factory a e) service factory = between factory a e

-- the place in memory where a part starts, from those of the two sheets
abbrev pub place_of : Part → ℕ × ℕ → ℕ × ℕ → ℕ × ℕ
place_of (of_service a e) service factory = further a service
place_of (of_factory a e) service factory = further a factory

-- a part by numbers
abbrev pub located_by : Part → Located
located_by (of_service a e) = record { factory = false; start = a; end = e }
located_by (of_factory a e) = record { factory = true; start = a; end = e }

-- the part that is shown, by numbers; refused where a sheet is bad (RULES 1.9)
unfoldable pub located_of : List ℕ → List ℕ → ℕ → Result Located Refusal
located_of service factory tag = cond (good_sheets service factory) (Ok (located_by (part_of service factory tag))) (Err BadSheet)

-- the block name (RULES 9.6)
unfoldable pub block_of : List ℕ → List ℕ → ℕ → List ℕ
block_of service factory tag = part_bytes (part_of service factory tag) service factory

-- refused where a sheet is bad (RULES 1.9)
unfoldable pub block_answer : List ℕ → List ℕ → Result (Unit {0}) Refusal
block_answer service factory = cond (good_sheets service factory) (Ok tt) (Err BadSheet)
