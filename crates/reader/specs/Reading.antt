-- Document 01, Pack sheet and capture: "A reader walks a lent capture and remembers its row and place." Assumes nothing: these are definitions.
use Rattle.std.specs.Prelude.{List, [], ℕ, zero, suc}
use Rattle.std.specs.Borrow.{Bor}
use Rattle.capture.specs.Capture.{Row}
use Rattle.capture.specs.Walk.{opened_of, first_place, Shows, step_at, body_at, body_place, row_after, place_after, follow}
use Rattle.reader.specs.declared.Reader.{Reader}

-- a reader begins at row 0 and its place (RULES 10.4)
abbrev pub start_of : Bor (List ℕ) → Reader
start_of bytes = record { bytes = bytes; row = 0; place = first_place (opened_of bytes.now) }

-- what stands at a reader's row and place (RULES 10.5)
abbrev pub step_of : Reader → Shows
step_of r = step_at r.bytes.now r.row r.place

-- the body of a reader's row; or no bytes (RULES 10.4)
abbrev pub body_of : Reader → List ℕ
body_of r = body_at r.bytes.now r.row r.place

-- the place in memory where that body starts
abbrev pub body_start : Reader → ℕ × ℕ
body_start r = body_place r.bytes.now r.row r.place r.bytes.ref_ptr

-- the same capture, at the row and the place that the step goes on to (RULES 10.4)
abbrev pub after_of : Reader → Reader
after_of r = record { bytes = r.bytes; row = row_after (step_of r) r.row; place = place_after (step_of r) r.place }

-- a reader that moved on k times
abbrev pub moved : ℕ → Reader → Reader
moved zero r = r
moved (suc k) r = moved k (after_of r)

-- the rows that a reader shows while it moves on at most k times
unfoldable pub shown_by : ℕ → Reader → List Row
shown_by zero r = []
shown_by (suc k) r = follow (step_of r) (body_of r) (λ (row place : ℕ). shown_by k (after_of r))
