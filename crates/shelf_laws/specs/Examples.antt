-- Reports worked by hand from the request's words: one table over `report_of`.
-- Assumes nothing.
use Rattle.std.specs.Prelude.{ℕ, List, [], ◌∷◌, map, ◌≡◌, replicate, Option, Some, None, Result, Ok, Err}
use Rattle.refusals.specs.declared.Refusal.{Refusal}
use Rattle.refusals.specs.declared.Refusal.TheVariants.{TooManyRows, BadRow}
use Rattle.shelf.specs.Shelf.{report_of}
use Rattle.shelf.specs.declared.Row.{Row}
use Rattle.shelf_row.specs.declared.Figures.{Figures}
use Rattle.shelf_row.specs.declared.Lowest.{Lowest}
use Rattle.shelf_table.specs.Table.{table_room}

-- a table of rows, and the report that the request's words give it
pub record Example : Type 0 where
  pub rows : List Row
  pub expected : Result Figures Refusal

-- remaining and full mAh of a pack of 4,000 mAh design and 12 cycles
abbrev pack : ℕ → ℕ → Row
pack remaining full = record { remaining = remaining; full = full; design = 4000; cycles = 12 }

-- served: packs, total remaining, total full, lowest, below one fifth
abbrev gives : List Row → ℕ → ℕ → ℕ → Option Lowest → ℕ → Example
gives rows packs remaining full lowest low =
    record { rows = rows; expected = Ok (record { packs = packs; remaining = remaining; full = full; lowest = lowest; low = low }) }

-- the lowest row: remaining, full, place
abbrev at : ℕ → ℕ → ℕ → Option Lowest
at remaining full place = Some (record { remaining = remaining; full = full; place = place })

-- refused, so with no figures
abbrev refuses : List Row → Refusal → Example
refuses rows reason = record { rows = rows; expected = Err reason }

unfoldable pub examples : List Example
examples =
    -- an empty table
    gives [] 0 0 0 None 0
    -- a full pack; one with nothing remaining
    ∷ gives (pack 4000 4000 ∷ []) 1 4000 4000 (at 4000 4000 0) 0
    ∷ gives (pack 3000 4000 ∷ pack 0 3000 ∷ []) 2 3000 7000 (at 0 3000 1) 1
    -- exactly one fifth isn't below it, one mAh less is
    ∷ gives (pack 800 4000 ∷ []) 1 800 4000 (at 800 4000 0) 0
    ∷ gives (pack 799 4000 ∷ []) 1 799 4000 (at 799 4000 0) 1
    -- a tie of one quarter: the first of the two
    ∷ gives (pack 3000 4000 ∷ pack 500 2000 ∷ pack 1000 4000 ∷ []) 3 4500 10000 (at 500 2000 1) 0
    -- the least remaining is another row's: 4 tenths against one quarter
    ∷ gives (pack 400 1000 ∷ pack 1000 4000 ∷ []) 2 1400 5000 (at 1000 4000 1) 0
    -- both are 25 whole percent: 25.05 against 25.025
    ∷ gives (pack 501 2000 ∷ pack 1001 4000 ∷ []) 2 1502 6000 (at 1001 4000 1) 0
    -- 64 packs of the greatest words
    ∷ gives (replicate 64 (pack 65535 65535)) 64 4194240 4194240 (at 65535 65535 0) 0
    -- 17: full 0, design 0, remaining above full; wherever the row stands
    ∷ refuses (pack 0 0 ∷ []) BadRow
    ∷ refuses (pack 3000 4000 ∷ record { remaining = 1000; full = 4000; design = 0; cycles = 12 } ∷ []) BadRow
    ∷ refuses (pack 4001 4000 ∷ pack 3000 4000 ∷ []) BadRow
    -- 16: 65 rows; it is looked at before a bad row
    ∷ refuses (replicate 65 (pack 3000 4000)) TooManyRows
    ∷ refuses (pack 0 0 ∷ replicate 64 (pack 3000 4000)) TooManyRows
    ∷ []

-- the two columns are equal
abbrev pub AsExpected : Type 0
AsExpected = map (λ (e : Example). report_of e.rows) examples ≡ map (λ (e : Example). e.expected) examples

-- in bytes: 65,535 of 65,535 mAh, design 65,535, no cycles; then 500 of 4,000 mAh, design 4,400, 12 cycles
abbrev pub table : List ℕ
table = 0xFF ∷ 0xFF ∷ 0xFF ∷ 0xFF ∷ 0xFF ∷ 0xFF ∷ 0x00 ∷ 0x00 ∷ 0xF4 ∷ 0x01 ∷ 0xA0 ∷ 0x0F ∷ 0x30 ∷ 0x11 ∷ 0x0C ∷ 0x00 ∷ []

-- its report in a room of 16 bytes: 2 packs, 66,035 mAh of 69,535, a lowest row, 500 of 4,000 at place 1, and 1 below one fifth
abbrev pub BytesAsExpected : Type 0
BytesAsExpected =
    table_room table (replicate 16 0)
    ≡ 0x02 ∷ 0xF3 ∷ 0x01 ∷ 0x01 ∷ 0x00 ∷ 0x9F ∷ 0x0F ∷ 0x01 ∷ 0x00 ∷ 0x01 ∷ 0xF4 ∷ 0x01 ∷ 0xA0 ∷ 0x0F ∷ 0x01 ∷ 0x01 ∷ []
