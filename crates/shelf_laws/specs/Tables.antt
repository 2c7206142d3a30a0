-- A table's bytes and its rows say the same, and so do a report and its bytes: what `proofs/` proves.
-- Assumes nothing.
use Rattle.std.specs.Prelude.{ℕ, false, if◌then◌else◌, List, [], ◌∷◌, ◌++◌, ◌≡◌, length, get_or, Some, None, Ok, IsOk}
use Rattle.numbers.specs.Numbers.{numbers_bytes, numbers_at, flagged}
use Rattle.rooms.specs.Rooms.{Bytes}
use Rattle.shelf.specs.Shelf.{report_of}
use Rattle.shelf.specs.declared.Row.{Row}
use Rattle.shelf_row.specs.declared.Figures.{Figures}
use Rattle.shelf_table.specs.Table.{row_widths, rows_in, is_ragged, figures_widths, figures_bytes, table_wrote, table_room}
use Rattle.shelf_laws.specs.Promises.{Words}

-- ---- tables

-- a row's words: remaining, full, design, cycle count
abbrev pub row_numbers : Row → List ℕ
row_numbers r = r.remaining ∷ r.full ∷ r.design ∷ r.cycles ∷ []

-- the table of rows: each row's four words, low byte first (RULES 13.7)
abbrev pub rows_bytes : List Row → List ℕ
rows_bytes [] = []
rows_bytes (r ∷ rows) = numbers_bytes row_widths (row_numbers r) ++ rows_bytes rows

-- a table of rows is bytes, and whole rows
abbrev pub TableOfRows : Type 0
TableOfRows = (rows : List Row) → Bytes (rows_bytes rows) × (is_ragged (rows_bytes rows) ≡ false)

-- a table of bytes has rows of words
abbrev pub RowsOfWords : Type 0
RowsOfWords = (table : List ℕ) → Bytes table → Words (rows_in table)

-- the rows of a table of rows of words are those rows
abbrev pub RowsBack : Type 0
RowsBack = (rows : List Row) → Words rows → rows_in (rows_bytes rows) ≡ rows

-- the table of the rows of a table is that table, if it is bytes and whole rows
abbrev pub TableBack : Type 0
TableBack = (table : List ℕ) → Bytes table → is_ragged table ≡ false → rows_bytes (rows_in table) ≡ table

-- different rows have different tables
abbrev pub TablesTell : Type 0
TablesTell = (xs ys : List Row) → Words xs → Words ys → rows_bytes xs ≡ rows_bytes ys → xs ≡ ys

-- and different tables different rows
abbrev pub RowsTell : Type 0
RowsTell = (a b : List ℕ) → Bytes a → Bytes b → is_ragged a ≡ false → is_ragged b ≡ false → rows_in a ≡ rows_in b → a ≡ b

-- ---- figures

-- the figures of a list of their numbers
abbrev pub figures_from : List ℕ → Figures
figures_from ns =
    record {
      packs = get_or ns 0 0;
      remaining = get_or ns 1 0;
      full = get_or ns 2 0;
      lowest = if flagged (get_or ns 3 0) then Some (record { remaining = get_or ns 4 0; full = get_or ns 5 0; place = get_or ns 6 0 }) else None;
      low = get_or ns 7 0;
    }

-- those that stand at the front of bytes (RULES 13.7)
abbrev pub figures_in : List ℕ → Figures
figures_in bytes = figures_from (numbers_at figures_widths bytes 0)

-- figures take 16 bytes
abbrev pub SixteenBytes : Type 0
SixteenBytes = (f : Figures) → length (figures_bytes f) ≡ 16

-- the figures of a served table of words are read back from their bytes
abbrev pub FiguresBack : Type 0
FiguresBack = (rows : List Row) (f : Figures) → Words rows → report_of rows ≡ Ok f → figures_in (figures_bytes f) ≡ f

-- so different figures never look alike
abbrev pub FiguresTell : Type 0
FiguresTell =
    (xs ys : List Row) (f g : Figures) → Words xs → Words ys → report_of xs ≡ Ok f → report_of ys ≡ Ok g
    → figures_bytes f ≡ figures_bytes g → f ≡ g

-- and the room of a served call shows its table's
abbrev pub RoomShows : Type 0
RoomShows = (table room : List ℕ) → Bytes table → IsOk (table_wrote table room) → report_of (rows_in table) ≡ Ok (figures_in (table_room table room))
