-- Document 01, Pack sheet and capture: what a capture is, "byte n, n rows of mark (0 write, 1 read) and length (0 to 37), then the bodies, to the exact end".
-- Said twice: of rows, and of bytes; `proofs/Exact.antt` proves the two the same. Assumes nothing: these are definitions.
use Rattle.std.specs.Prelude.{◌≡◌, Bool, true, ◌&&◌, List, [], ◌∷◌, ◌++◌, ℕ, zero, suc, ◌+◌, ◌*◌, leb, eqb, length, get_or}

-- a row: its mark, and the body whose length it has
pub record Row : Type 0 where
  pub mark : ℕ
  pub body : List ℕ

-- mark 0 (write) or 1 (read), length 0 to 37 (RULES 10.2)
abbrev pub fits : ℕ → ℕ → Bool
fits mark size = leb mark 1 && leb size 37

unfoldable pub all_fit : List Row → Bool
all_fit [] = true
all_fit (r ∷ rows) = fits r.mark (length r.body) && all_fit rows

-- rows that a capture can have: their number is a byte, and each fits
abbrev pub RowsFit : List Row → Type 0
RowsFit rows = leb (length rows) 255 && all_fit rows ≡ true

-- the rows of mark and length
unfoldable pub table_of : List Row → List ℕ
table_of [] = []
table_of (r ∷ rows) = r.mark ∷ length r.body ∷ table_of rows

-- the bodies
unfoldable pub row_bodies : List Row → List ℕ
row_bodies [] = []
row_bodies (r ∷ rows) = r.body ++ row_bodies rows

-- byte n, n rows of mark and length, then the bodies (RULES 10.1)
abbrev pub capture_of : List Row → List ℕ
capture_of rows = length rows ∷ (table_of rows ++ row_bodies rows)

-- the bytes of the longest capture: byte n, and 255 rows of mark, length and 37 bytes (RULES 10.2)
abbrev pub capture_most : ℕ
capture_most = 1 + 255 * 39

-- the capture of some rows (RULES 10.1)
abbrev pub IsCapture : List ℕ → Type 0
IsCapture s = (rows : List Row) × (RowsFit rows × (s ≡ capture_of rows))

-- byte n
abbrev pub count_in : List ℕ → ℕ
count_in s = get_or s 0 0

-- the mark of a row
abbrev pub mark_in : List ℕ → ℕ → ℕ
mark_in s row = get_or s (2 * row + 1) 0

-- the length of a row
abbrev pub length_in : List ℕ → ℕ → ℕ
length_in s row = get_or s (2 * row + 2) 0

-- the place of a row: where its body begins
unfoldable pub place_in : List ℕ → ℕ → ℕ
place_in s zero = 2 * count_in s + 1
place_in s (suc row) = place_in s row + length_in s row

-- the first rows fit
unfoldable pub rows_fit : List ℕ → ℕ → Bool
rows_fit s zero = true
rows_fit s (suc row) = rows_fit s row && fits (mark_in s row) (length_in s row)

-- byte n; the rows are there, and fit; the last body ends where the bytes end (RULES 10.1, 10.2)
unfoldable pub is_capture : List ℕ → Bool
is_capture s = leb (count_in s) 255 && leb (place_in s 0) (length s) && rows_fit s (count_in s) && eqb (place_in s (count_in s)) (length s)
