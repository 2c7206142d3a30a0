-- The shelf's table and its report in lent bytes, for C: a row in 8, the figures in 16, each number low byte first.
-- Assumes nothing.
use Rattle.std.specs.Prelude.{ℕ, zero, suc, ◌*◌, ◌/◌, ◌%◌, Bool, not, if◌then◌else◌, List, [], ◌∷◌, eqb, ltb, length, get_or, replicate, is_some, Result, Ok, Err}
use Rattle.numbers.specs.Numbers.{numbers_bytes, numbers_at, flag_of}
use Rattle.refusals.specs.declared.Refusal.{Refusal}
use Rattle.refusals.specs.declared.Refusal.TheVariants.{SmallRoom, WrongForm}
use Rattle.rooms.specs.Rooms.{placed}
use Rattle.shelf.specs.Shelf.{report_of}
use Rattle.shelf.specs.declared.Row.{Row}
use Rattle.shelf_row.specs.Rows.{shown}
use Rattle.shelf_row.specs.declared.Figures.{Figures}

-- ---- a table

-- a row is four words
abbrev pub row_widths : List ℕ
row_widths = replicate 4 2

-- remaining, full, design, cycle count (RULES 13.7)
abbrev pub row_from : List ℕ → Row
row_from ns = record { remaining = get_or ns 0 0; full = get_or ns 1 0; design = get_or ns 2 0; cycles = get_or ns 3 0 }

-- the row at a place, from 0
abbrev pub row_at : List ℕ → ℕ → Row
row_at table place = row_from (numbers_at row_widths table (8 * place))

-- so many rows from a place on
abbrev pub rows_at : List ℕ → ℕ → ℕ → List Row
rows_at table place zero = []
rows_at table place (suc n) = row_at table place ∷ rows_at table (suc place) n

-- the rows of a table
abbrev pub rows_in : List ℕ → List Row
rows_in table = rows_at table 0 (length table / 8)

-- a table that isn't whole rows (RULES 1.4)
abbrev pub is_ragged : List ℕ → Bool
is_ragged table = not (eqb (length table % 8) 0)

-- ---- its report

abbrev pub figures_widths : List ℕ
figures_widths = 1 ∷ 4 ∷ 4 ∷ 1 ∷ 2 ∷ 2 ∷ 1 ∷ 1 ∷ []

-- how many packs, total remaining, total full; the lowest: a flag that there is one, its two numbers, its place; how many are below one fifth (RULES 13.7)
abbrev pub figures_numbers : Figures → List ℕ
figures_numbers f =
    f.packs
    ∷ f.remaining
    ∷ f.full
    ∷ flag_of (is_some f.lowest)
    ∷ (shown f.lowest).remaining
    ∷ (shown f.lowest).full
    ∷ (shown f.lowest).place
    ∷ f.low
    ∷ []

abbrev pub figures_bytes : Figures → List ℕ
figures_bytes f = numbers_bytes figures_widths (figures_numbers f)

-- 2: a room under 16 bytes; then 4: a table that isn't whole rows; then the report of its rows (RULES 1.2, 1.4, 13.6)
abbrev pub table_report : List ℕ → List ℕ → Result Figures Refusal
table_report table room = if ltb (length room) 16 then Err SmallRoom else (if is_ragged table then Err WrongForm else report_of (rows_in table))

-- served, 16 bytes are written
abbrev pub bytes_told : Result Figures Refusal → Result ℕ Refusal
bytes_told (Ok figures) = Ok 16
bytes_told (Err reason) = Err reason

abbrev pub table_wrote : List ℕ → List ℕ → Result ℕ Refusal
table_wrote table room = bytes_told (table_report table room)

-- served, the figures stand at the front of the room; refused, the room stays (RULES 2.3, 2.5)
abbrev pub room_with : Result Figures Refusal → List ℕ → List ℕ
room_with (Ok figures) room = placed (figures_bytes figures) room
room_with (Err reason) room = room

abbrev pub table_room : List ℕ → List ℕ → List ℕ
table_room table room = room_with (table_report table room) room
