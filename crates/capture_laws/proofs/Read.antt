-- A reader walks every row of a capture once and in order, and stops; of other bytes it shows none. Assumes nothing.
use mathlib.Core.Path.{◌≡◌, refl, sym, ap, ◌∙◌}
use mathlib.Core.Bool.{true}
use mathlib.Core.List.{List, ◌∷◌}
use Prim.Native.Nat.{ℕ, zero, suc, ◌+◌, ◌≤◌}
use native.Mathlib.Omega.{arith}
use denote.Ref.{Bor}
use Rattle.capture.specs.declared.Opened.{Opened}
use Rattle.std.specs.Prelude.{Some, None, Result, Ok, Err}
use Rattle.refusals.specs.declared.Refusal.{Refusal}
use Rattle.refusals.specs.declared.Refusal.TheVariants.{NotACapture}
use Rattle.capture.specs.declared.Step.{Step}
use Rattle.capture.specs.Capture.{Row, capture_of, count_in, place_in, is_capture}
use Rattle.capture.specs.Walk.{opened_of, first_place, Shows, row_after, place_after, follow, walk}
use Rattle.capture.proofs.Check.{place-start}
use Rattle.capture.proofs.Steps.{opened}
use Rattle.reader.specs.declared.Reader.{Reader}
use Rattle.reader.specs.Reading.{start_of, step_of, body_of, after_of, moved, shown_by}
use Rattle.capture_laws.specs.Laws.{reader_at, ReaderMoves, ReaderMoved, ReaderEnds, ReaderStays, ReaderShowsAll, ReaderRefuses, ReaderFromStart}
use Rattle.capture_laws.proofs.Exact.{capture_is}
use Rattle.capture_laws.proofs.Walked.{step_row, last-place, exact_end, walked, others_refused, walk_opened}

-- it goes where the step says
goes : (bytes : Bor (List ℕ)) (row : ℕ) (t : Shows) → step_of (reader_at bytes row) ≡ t
    → after_of (reader_at bytes row) ≡ record { bytes = bytes; row = row_after t row; place = place_after t (place_in bytes.now row) }
goes bytes row t e = rw e

-- at each row it goes on to the next
pub moves : ReaderMoves
moves bytes e row h = goes bytes row _ (step_row bytes.now e row h)

-- a reader that moved on k times is at row k
moved_from : (bytes : Bor (List ℕ)) → is_capture bytes.now ≡ true → (k row : ℕ) → row + k ≤ count_in bytes.now → moved k (reader_at bytes row) ≡ reader_at bytes (row + k)
moved_from bytes e zero row h = ap (reader_at bytes) (omega arith)
moved_from bytes e (suc k) row h = ap (moved k) (moves bytes e row (omega arith)) ∙ moved_from bytes e k (row + 1) (omega arith) ∙ ap (reader_at bytes) (omega arith)

pub moved_to : ReaderMoved
moved_to bytes e k h =
    let place : first_place (opened_of bytes.now) ≡ place_in bytes.now 0 = ap first_place (sym (opened bytes.now (count_in bytes.now) e refl)) ∙ place-start bytes.now in
    ap (λ (p : ℕ). moved k (record { bytes = bytes; row = 0; place = p })) place ∙ moved_from bytes e k 0 (omega arith) ∙ ap (reader_at bytes) (omega arith)

-- past the last row it is at the exact end, says so, and stays
pub ends : ReaderEnds
ends bytes e = let last = exact_end bytes.now e in (last.1 (place_in bytes.now (count_in bytes.now)) (last-place bytes.now e), last.0)

pub stays : ReaderStays
stays bytes e = goes bytes (count_in bytes.now) _ (ends bytes e).0

follow_same : (t : Shows) (body : List ℕ) (f g : ℕ → ℕ → List Row) → ((step : Step) → t ≡ Ok (Some step) → f step.row step.place ≡ g step.row step.place) → follow t body f ≡ follow t body g
follow_same (Ok (Some step)) body f g h = ap (λ (l : List Row). record { mark = step.mark; body = body } ∷ l) (h step refl)
follow_same (Ok None) body f g h = refl
follow_same (Err reason) body f g h = refl

-- what a reader shows is what the walk shows
shown_walk : (k : ℕ) (r : Reader) → shown_by k r ≡ walk k r.bytes.now r.row r.place
unfolding shown_by walk
shown_walk zero r = refl
shown_walk (suc k) r =
    follow_same (step_of r) (body_of r) (λ (row place : ℕ). shown_by k (after_of r)) (walk k r.bytes.now)
    (λ step e. shown_walk k (after_of r) ∙ ap (λ (t : Shows). walk k r.bytes.now (row_after t r.row) (place_after t r.place)) e)

-- every row once, in order, and no more
pub reads : ReaderShowsAll
reads rows f bytes e k h =
    shown_walk k (start_of bytes)
    ∙ ap (λ (s : List ℕ). walk k s 0 (first_place (opened_of s))) e
    ∙ ap (λ (o : Result Opened Refusal). walk k (capture_of rows) 0 (first_place o)) (sym (opened (capture_of rows) _ (capture_is rows f) refl))
    ∙ walked rows f k h

-- at the start of other bytes it says that they are no capture, and stays
pub refuses : ReaderRefuses
refuses bytes e = (refused, stay)
  where
    refused : step_of (start_of bytes) ≡ Err NotACapture
    refused = ((others_refused bytes.now e).2 0).0

    stay : (k : ℕ) → moved k (start_of bytes) ≡ start_of bytes
    stay zero = refl
    stay (suc k) = ap (λ (t : Shows). moved k (record { bytes = bytes; row = row_after t 0; place = place_after t (first_place (opened_of bytes.now)) })) refused ∙ stay k

-- of a capture its rows, of other bytes none
pub reads_opened : ReaderFromStart
reads_opened bytes k h = shown_walk k (start_of bytes) ∙ walk_opened bytes.now k h
