-- A table's bytes and its rows.
-- Assumes nothing.
use mathlib.Core.Path.{◌≡◌, refl, sym, ap, ◌∙◌}
use mathlib.Core.Bool.{not}
use mathlib.Core.List.{List, [], ◌∷◌, ◌++◌, append_assoc}
use Prim.Native.Nat.{ℕ, zero, suc, ◌+◌, ◌*◌, ◌/◌, ◌%◌, ◌≤◌}
use native.Mathlib.Omega.{arith}
use lib.Dec.{eqb}
use lib.ListN.{length, drop, drop_of_length-le}
use borrow.Author.Tests.{eqb-true, eq-eqb, not-false}
use Rattle.numbers.specs.Numbers.{number_bytes, numbers_bytes, numbers_at}
use Rattle.numbers.proofs.Numbers.{numbers_then, numbers-again, number_fits}
use Rattle.rooms.specs.Rooms.{Bytes}
use Rattle.shelf.specs.declared.Row.{Row}
use Rattle.shelf_table.specs.Table.{row_widths, row_from, rows_at, rows_in}
use Rattle.shelf_laws.specs.Promises.{Words}
use Rattle.shelf_laws.specs.Tables.{row_numbers, rows_bytes, TableOfRows, RowsOfWords, RowsBack, TableBack, TablesTell, RowsTell}

table_length : (rows : List Row) → length (rows_bytes rows) ≡ 8 * length rows
table_length [] = refl
table_length (r ∷ rows) = omega (arith, table_length rows)

number-bytes : (n v : ℕ) (l : List ℕ) → Bytes l → Bytes (number_bytes n v ++ l)
number-bytes zero v l b = b
number-bytes (suc n) v l b = (omega arith, number-bytes n (v / 256) l b)

numbers-bytes : (widths values l : List ℕ) → Bytes l → Bytes (numbers_bytes widths values ++ l)
numbers-bytes [] values l b = b
numbers-bytes (n ∷ widths) [] l b = b
numbers-bytes (n ∷ widths) (v ∷ values) l b = rw append_assoc (number-bytes n v (numbers_bytes widths values ++ l) (numbers-bytes widths values l b))

table_bytes : (rows : List Row) → Bytes (rows_bytes rows)
table_bytes [] = tt
table_bytes (r ∷ rows) = numbers-bytes row_widths (row_numbers r) (rows_bytes rows) (table_bytes rows)

pub table_of_rows : TableOfRows
table_of_rows rows = (table_bytes rows, ap not (eq-eqb (length (rows_bytes rows) % 8) 0 (omega (arith, table_length rows))))

words_from : (table : List ℕ) → Bytes table → (place n : ℕ) → Words (rows_at table place n)
words_from table b place zero = tt
words_from table b place (suc n) =
    let word = number_fits table b 2 in
    (record { remaining = word _; full = word _; design = word _; cycles = word _ }, words_from table b (suc place) n)

pub rows_of_words : RowsOfWords
rows_of_words table b = words_from table b 0 (length table / 8)

-- ---- rows, their table, and the rows in it

rows-from : (table : List ℕ) (rows : List Row) (place : ℕ) → Words rows → drop (8 * place) table ≡ rows_bytes rows → rows_at table place (length rows) ≡ rows
rows-from table [] place w e = refl
rows-from table (r ∷ rows) place w e =
    let o = w.0 in
    let b = numbers_then row_widths (row_numbers r) table (8 * place) (omega arith, (omega arith, (omega arith, (omega arith, tt)))) e in
    let next : 8 * suc place ≡ 8 * place + 8 = omega arith in
    let more = rows-from table rows (suc place) w.1 (ap (λ (k : ℕ). drop k table) next ∙ b.1) in
    λ i. row_from (b.0 i) ∷ more i

pub rows_back : RowsBack
rows_back rows w =
    let n : length (rows_bytes rows) / 8 ≡ length rows = omega (arith, table_length rows) in
    ap (rows_at (rows_bytes rows) 0) n ∙ rows-from (rows_bytes rows) rows 0 w refl

-- ---- a table, its rows, and their table

table_from : (table : List ℕ) → Bytes table → (place n : ℕ) → 8 * place + 8 * n ≡ length table → rows_bytes (rows_at table place n) ≡ drop (8 * place) table
table_from table b place zero e = let past : length table ≤ 8 * place = omega arith in sym (drop_of_length-le table past)
table_from table b place (suc n) e =
    let next : 8 * suc place ≡ 8 * place + 8 = omega arith in
    let more : rows_bytes (rows_at table (suc place) n) ≡ drop (8 * suc place) table = table_from table b (suc place) n (omega arith) in
    ap (λ (l : List ℕ). numbers_bytes row_widths (numbers_at row_widths table (8 * place)) ++ l) (more ∙ ap (λ (k : ℕ). drop k table) next)
    ∙ numbers-again table b row_widths (8 * place) (omega arith)

pub table_back : TableBack
table_back table b whole =
    let left : length table % 8 ≡ 0 = eqb-true (length table % 8) 0 (not-false (eqb (length table % 8) 0) whole) in
    table_from table b 0 (length table / 8) (omega arith)

-- ---- so each tells the other

pub tables_tell : TablesTell
tables_tell xs ys u v e = sym (rows_back xs u) ∙ ap rows_in e ∙ rows_back ys v

pub rows_tell : RowsTell
rows_tell a b ba bb wa wb e = sym (table_back a ba wa) ∙ ap rows_bytes e ∙ table_back b bb wb
