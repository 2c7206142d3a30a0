-- What is proved of captures, of their walk, their reader and their writer. Assumes nothing: these are definitions.
use Rattle.std.specs.Prelude.{◌≡◌, ◌↔◌, Bool, cond, true, false, ◌&&◌, List, [], ◌∷◌, map, ℕ, zero, suc, ◌+◌, ◌*◌, ◌≤◌, ◌<◌, ltb, leb, replicate, length, take, drop, Some, None, Ok, Err}
use Rattle.std.specs.Borrow.{Bor}
use Rattle.refusals.specs.Numbers.{answer_of}
use Rattle.refusals.specs.declared.Refusal.TheVariants.{NotACapture}
use Rattle.rooms.specs.Rooms.{placed}
use Rattle.capture.specs.Capture.{Row, RowsFit, row_bodies, capture_of, capture_most, IsCapture, count_in, mark_in, length_in, place_in, is_capture}
use Rattle.capture.specs.Walk.{opened_of, first_place, Shows, seen_bad, step_at, body_at, walk}
use Rattle.capture_writer.specs.Writer.{given_fit, capture_given, capture_wrote, capture_room}
use Rattle.reader.specs.declared.Reader.{Reader}
use Rattle.reader.specs.Reading.{start_of, step_of, after_of, moved, shown_by}

-- ---- captures

-- 1. bytes are a capture exactly when they are that of some rows
abbrev pub CaptureExactly : Type 0
CaptureExactly = (s : List ℕ) → (is_capture s ≡ true) ↔ IsCapture s

-- the row that bytes show, by its number
unfoldable pub row_in : List ℕ → ℕ → Row
row_in s k = record { mark = mark_in s k; body = take (length_in s k) (drop (place_in s k) s) }

-- m rows from the k-th on
unfoldable pub rows_from : List ℕ → ℕ → ℕ → List Row
rows_from s k zero = []
rows_from s k (suc m) = row_in s k ∷ rows_from s (suc k) m

-- 2. a capture shows the very rows it was made of
abbrev pub RowsBack : Type 0
RowsBack = (rows : List Row) → rows_from (capture_of rows) 0 (length rows) ≡ rows

-- 3. different rows never give the same capture
abbrev pub OneCapture : Type 0
OneCapture = (a b : List Row) → capture_of a ≡ capture_of b → a ≡ b

-- 4. no capture is longer than 1 + 255 × 39 bytes
abbrev pub LongestCapture : Type 0
LongestCapture = (s : List ℕ) → IsCapture s → length s ≤ capture_most

-- n rows of 37 bytes
abbrev pub fullest : ℕ → List Row
fullest n = replicate n (record { mark = 1; body = replicate 37 0 })

-- and 255 such rows make one that long
abbrev pub LongestReached : Type 0
LongestReached = (n : ℕ) → n ≤ 255 → IsCapture (capture_of (fullest n)) × (length (capture_of (fullest n)) ≡ 1 + n * 39)

-- ---- their walk

-- 5. it visits every row once, in order, and no more
abbrev pub WalkVisitsAll : Type 0
WalkVisitsAll = (rows : List Row) → RowsFit rows → (k : ℕ) → length rows ≤ k → walk k (capture_of rows) 0 (2 * length rows + 1) ≡ rows

-- 6. the last place is the exact end, and there the walk ends; so it does past the last row at every place but 0
abbrev pub ExactEnd : Type 0
ExactEnd = (s : List ℕ) → is_capture s ≡ true → (place_in s (count_in s) ≡ length s) × ((place : ℕ) → 0 < place → step_at s (count_in s) place ≡ Ok None)

-- a row by a test of the whole: bytes are a capture with that row, and have its length of bytes at that place
abbrev pub has_row_whole : List ℕ → ℕ → ℕ → Bool
has_row_whole s row place = is_capture s && ltb row (count_in s) && leb (place + length_in s row) (length s)

-- a step and a body that would test the whole capture at each row
unfoldable pub step_whole : List ℕ → ℕ → ℕ → Shows
step_whole s row place =
    cond (has_row_whole s row place)
    (Ok (Some (record { mark = mark_in s row; row = row + 1; place = place + length_in s row })))
    (cond (is_capture s) (Ok None) (Err NotACapture))

unfoldable pub body_whole : List ℕ → ℕ → ℕ → List ℕ
body_whole s row place = cond (has_row_whole s row place) (take (length_in s row) (drop place s)) []

-- 7. of a capture, at every row and every place past the table, they are the step and the body that look at their own row alone
abbrev pub StepAsWhole : Type 0
StepAsWhole =
    (s : List ℕ) → is_capture s ≡ true → (row place : ℕ) → place_in s 0 ≤ place
    → (step_at s row place ≡ step_whole s row place) × (body_at s row place ≡ body_whole s row place)

-- 8. other bytes are refused at opening; a walk of them is at place 0, where every step says that they are no capture, and no row has a body
abbrev pub OthersRefused : Type 0
OthersRefused =
    (s : List ℕ) → is_capture s ≡ false
    → (opened_of s ≡ Err NotACapture) × (first_place (opened_of s) ≡ 0)
    × ((row : ℕ) → (step_at s row (first_place (opened_of s)) ≡ Err NotACapture) × (body_at s row (first_place (opened_of s)) ≡ []))

-- 9. a step's number is 14 exactly where it sees that bytes are no capture, and of a capture it sees that at place 0 alone
abbrev pub StepAnswer : Type 0
StepAnswer = (s : List ℕ) (row place : ℕ) → answer_of (step_at s row place) ≡ cond (seen_bad s row place) 14 0

abbrev pub SeenRightly : Type 0
SeenRightly = (s : List ℕ) → is_capture s ≡ true → (row place : ℕ) → 0 < place → seen_bad s row place ≡ false

-- so from the place that a walk begins at, a step's number is 14 exactly for bytes that aren't a capture
abbrev pub OpenedAnswer : Type 0
OpenedAnswer = (s : List ℕ) (row : ℕ) → answer_of (step_at s row (first_place (opened_of s))) ≡ cond (is_capture s) 0 14

-- 10. a walk from opening shows the rows of a capture, and of other bytes none
abbrev pub WalkFromOpening : Type 0
WalkFromOpening = (s : List ℕ) (k : ℕ) → count_in s ≤ k → walk k s 0 (first_place (opened_of s)) ≡ cond (is_capture s) (rows_from s 0 (count_in s)) []

-- ---- their reader

-- a reader of these bytes, at a row and its place
abbrev pub reader_at : Bor (List ℕ) → ℕ → Reader
reader_at bytes row = record { bytes = bytes; row = row; place = place_in bytes.now row }

-- 11. at each row it goes on to the next
abbrev pub ReaderMoves : Type 0
ReaderMoves = (bytes : Bor (List ℕ)) → is_capture bytes.now ≡ true → (row : ℕ) → row < count_in bytes.now → after_of (reader_at bytes row) ≡ reader_at bytes (row + 1)

-- so a reader that moved on k times is at row k
abbrev pub ReaderMoved : Type 0
ReaderMoved = (bytes : Bor (List ℕ)) → is_capture bytes.now ≡ true → (k : ℕ) → k ≤ count_in bytes.now → moved k (start_of bytes) ≡ reader_at bytes k

-- 12. past the last row it is at the exact end, and says so
abbrev pub ReaderEnds : Type 0
ReaderEnds =
    (bytes : Bor (List ℕ)) → is_capture bytes.now ≡ true
    → (step_of (reader_at bytes (count_in bytes.now)) ≡ Ok None) × ((reader_at bytes (count_in bytes.now)).place ≡ length bytes.now)

-- and stays
abbrev pub ReaderStays : Type 0
ReaderStays = (bytes : Bor (List ℕ)) → is_capture bytes.now ≡ true → after_of (reader_at bytes (count_in bytes.now)) ≡ reader_at bytes (count_in bytes.now)

-- 13. it shows every row once, in order, and no more
abbrev pub ReaderShowsAll : Type 0
ReaderShowsAll =
    (rows : List Row) → RowsFit rows → (bytes : Bor (List ℕ)) → bytes.now ≡ capture_of rows → (k : ℕ) → length rows ≤ k → shown_by k (start_of bytes) ≡ rows

-- 14. at the start of other bytes it says that they are no capture, and stays
abbrev pub ReaderRefuses : Type 0
ReaderRefuses =
    (bytes : Bor (List ℕ)) → is_capture bytes.now ≡ false
    → (step_of (start_of bytes) ≡ Err NotACapture) × ((k : ℕ) → moved k (start_of bytes) ≡ start_of bytes)

-- 15. so a reader shows the rows of a capture, and of other bytes none
abbrev pub ReaderFromStart : Type 0
ReaderFromStart =
    (bytes : Bor (List ℕ)) (k : ℕ) → count_in bytes.now ≤ k
    → shown_by k (start_of bytes) ≡ cond (is_capture bytes.now) (rows_from bytes.now 0 (count_in bytes.now)) []

-- ---- their writer

-- what the writer is given for rows: their marks and their bodies' lengths (and `row_bodies`)
abbrev pub marks_of : List Row → List ℕ
marks_of rows = map (λ (r : Row). r.mark) rows

abbrev pub sizes_of : List Row → List ℕ
sizes_of rows = map (λ (r : Row). length r.body) rows

-- 16. what it serves is a capture
abbrev pub ServedIsCapture : Type 0
ServedIsCapture = (marks sizes bodies : List ℕ) → given_fit marks sizes bodies ≡ true → IsCapture (capture_given marks sizes bodies)

-- 17. all rows that fit are written where the room holds them, and the room then begins with their capture
abbrev pub FitIsWritten : Type 0
FitIsWritten =
    (rows : List Row) → RowsFit rows → (room : List ℕ) → length (capture_of rows) ≤ length room
    → (capture_wrote (marks_of rows) (sizes_of rows) (row_bodies rows) room ≡ Ok (length (capture_of rows)))
    × (capture_room (marks_of rows) (sizes_of rows) (row_bodies rows) room ≡ placed (capture_of rows) room)

-- 18. read back from the room, up to the length answered, they are the very rows
abbrev pub RowsReadBack : Type 0
RowsReadBack =
    (rows : List Row) → RowsFit rows → (room : List ℕ) → length (capture_of rows) ≤ length room → (k : ℕ) → length rows ≤ k
    → (n : ℕ) × ((capture_wrote (marks_of rows) (sizes_of rows) (row_bodies rows) room ≡ Ok n)
    × (walk k (take n (capture_room (marks_of rows) (sizes_of rows) (row_bodies rows) room)) 0 (2 * length rows + 1) ≡ rows))
