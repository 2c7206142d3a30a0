-- Document 01, Pack sheet and capture: reading a capture. Opening tests the whole; what stands at a row and a place is looked up there, without a walk.
-- Assumes nothing: these are definitions.
use Rattle.std.specs.Prelude.{Bool, cond, ◌&&◌, ◌||◌, not, List, [], ◌∷◌, ℕ, zero, suc, ◌+◌, leb, ltb, eqb, length, take, drop, Option, Some, None, Result, Ok, Err}
use Rattle.refusals.specs.declared.Refusal.{Refusal}
use Rattle.refusals.specs.declared.Refusal.TheVariants.{NotACapture}
use Rattle.rooms.specs.Rooms.{further}
use Rattle.capture.specs.declared.Opened.{Opened}
use Rattle.capture.specs.declared.Step.{Step}
use Rattle.capture.specs.Capture.{Row, fits, capture_most, is_capture, count_in, mark_in, length_in, place_in}

-- the number of rows and the place of the first; else a refusal (RULES 10.3)
unfoldable pub opened_of : List ℕ → Result Opened Refusal
opened_of s = cond (is_capture s) (Ok (record { rows = count_in s; place = place_in s 0 })) (Err NotACapture)

-- the place that a walk of opened bytes begins at; of bytes that are no capture 0, which no row of a capture has (RULES 10.3)
abbrev pub first_place : Result Opened Refusal → ℕ
first_place (Ok opened) = opened.place
first_place (Err reason) = 0

-- what a step shows: a row, the end, or that the bytes are no capture (RULES 10.5, 10.6)
abbrev pub Shows : Type 0
Shows = Result (Option Step) Refusal

-- a row below n that fits, its length of bytes at a place past the table, and no more bytes than a capture has (RULES 10.5)
abbrev pub has_row : List ℕ → ℕ → ℕ → Bool
has_row s row place =
    ltb row (count_in s) && fits (mark_in s row) (length_in s row) && leb (place_in s 0) place && leb (place + length_in s row) (length s) && leb (length s) capture_most

-- a step sees bytes that are no capture: by place 0, at which a walk of such begins; by a table past the end, too many bytes, or a row below n that doesn't fit (RULES 10.6)
abbrev pub seen_bad : List ℕ → ℕ → ℕ → Bool
seen_bad s row place = eqb place 0 || ltb (length s) (place_in s 0) || ltb capture_most (length s) || (ltb row (count_in s) && not (fits (mark_in s row) (length_in s row)))

-- the row's mark, the next row and the next place, which is past its body (RULES 10.5, 10.6)
unfoldable pub step_at : List ℕ → ℕ → ℕ → Shows
step_at s row place =
    cond (has_row s row place)
    (Ok (Some (record { mark = mark_in s row; row = row + 1; place = place + length_in s row })))
    (cond (seen_bad s row place) (Err NotACapture) (Ok None))

-- the row's body, a part of the capture; or no bytes (RULES 10.4)
unfoldable pub body_at : List ℕ → ℕ → ℕ → List ℕ
body_at s row place = cond (has_row s row place) (take (length_in s row) (drop place s)) []

-- the place in memory where that part starts, from the capture's: the row's place further on; of no bytes, the capture's first
unfoldable pub body_place : List ℕ → ℕ → ℕ → ℕ × ℕ → ℕ × ℕ
body_place s row place first = further (cond (has_row s row place) place 0) first

-- the row that a step goes on to; at the end, the same
abbrev pub row_after : Shows → ℕ → ℕ
row_after (Ok (Some step)) old = step.row
row_after (Ok None) old = old
row_after (Err reason) old = old

-- the place that a step goes on to; at the end, the same
abbrev pub place_after : Shows → ℕ → ℕ
place_after (Ok (Some step)) old = step.place
place_after (Ok None) old = old
place_after (Err reason) old = old

-- a step's row, and then what the rest shows from the next row and place; at the end, none
abbrev pub follow : Shows → List ℕ → (ℕ → ℕ → List Row) → List Row
follow (Ok (Some step)) body rest = record { mark = step.mark; body = body } ∷ rest step.row step.place
follow (Ok None) body rest = []
follow (Err reason) body rest = []

-- the rows that a walk of at most k steps shows, from a row and a place on
unfoldable pub walk : ℕ → List ℕ → ℕ → ℕ → List Row
walk zero s row place = []
walk (suc k) s row place = follow (step_at s row place) (body_at s row place) (walk k s)
