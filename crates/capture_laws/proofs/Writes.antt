-- What is written is a capture; all rows that fit can be written, and are read back. Assumes nothing.
use mathlib.Core.Path.{◌≡◌, refl, ap, ◌∙◌}
use mathlib.Core.Bool.{true, and-eq-true_iff}
use mathlib.Core.List.{List, [], ◌∷◌}
use Prim.Native.Nat.{ℕ, ◌+◌, ◌*◌}
use native.Mathlib.Omega.{arith}
use lib.Dec.{leb}
use lib.ListN.{length, take, drop, length-append, length-map, length-take, length-drop}
use lib.Seq.{take-append_seam, drop-append_seam}
use borrow.Author.Tests.{le-leb, eq-eqb}
use Rattle.std.specs.Prelude.{Ok}
use Rattle.rooms.specs.Rooms.{placed}
use Rattle.capture.specs.Capture.{Row, fits, all_fit, RowsFit, row_bodies, capture_of}
use Rattle.capture.specs.Walk.{walk}
use Rattle.capture_writer.specs.Writer.{rows_given, pairs_fit, sum, given_fit, room_asked, capture_wrote, capture_room}
use Rattle.capture_writer.proofs.Written.{given, given_count}
use Rattle.capture_laws.specs.Laws.{marks_of, sizes_of, ServedIsCapture, FitIsWritten, RowsReadBack}
use Rattle.capture_laws.proofs.Exact.{capture_length}
use Rattle.capture_laws.proofs.Walked.{walked}

rows_again : (rows : List Row) → rows_given (marks_of rows) (sizes_of rows) (row_bodies rows) ≡ rows
unfolding rows_given row_bodies
rows_again [] = refl
rows_again (r ∷ rows) = rw (take-append_seam r.body (row_bodies rows), drop-append_seam r.body (row_bodies rows), rows_again rows)

sum_again : (rows : List Row) → sum (sizes_of rows) ≡ length (row_bodies rows)
unfolding sum row_bodies
sum_again [] = refl
sum_again (r ∷ rows) = rw (length-append, sum_again rows)

pairs_again : (rows : List Row) → pairs_fit (marks_of rows) (sizes_of rows) ≡ all_fit rows
unfolding pairs_fit all_fit
pairs_again [] = refl
pairs_again (r ∷ rows) = rw (pairs_again rows)

given_again : (rows : List Row) → RowsFit rows → given_fit (marks_of rows) (sizes_of rows) (row_bodies rows) ≡ true
unfolding given_fit
given_again rows f =
    let g = (and-eq-true_iff (leb (length rows) 255) (all_fit rows)).0 f in
    let m : length (marks_of rows) ≡ length rows = length-map rows (λ (r : Row). r.mark) in
    let n : length (sizes_of rows) ≡ length rows = length-map rows (λ (r : Row). length r.body) in
    simp (m, n, eq-eqb (length rows) (length rows) refl, g.0, pairs_again rows, g.1, eq-eqb _ _ (sum_again rows))

-- all rows that fit are written where the room holds them, and the room then begins with their capture
pub writes : FitIsWritten
unfolding capture_wrote capture_room
writes rows f room h =
    let m : length (marks_of rows) ≡ length rows = length-map rows (λ (r : Row). r.mark) in
    let n : length (sizes_of rows) ≡ length rows = length-map rows (λ (r : Row). length r.body) in
    let held : leb (room_asked (marks_of rows) (sizes_of rows) (row_bodies rows)) (length room) ≡ true = le-leb (room_asked (marks_of rows) (sizes_of rows) (row_bodies rows)) (length room) (omega (arith, capture_length rows)) in
    let g = given_again rows f in
    (simp (held, g) (ap (λ (l : List Row). Ok (length (capture_of l))) (rows_again rows)), simp (held, g) (ap (λ (l : List Row). placed (capture_of l) room) (rows_again rows)))

-- read back from the room, up to the length answered, they are the very rows
pub read_back : RowsReadBack
read_back rows f room h k b =
    let w = writes rows f room h in
    let again =
    ap (λ (s : List ℕ). walk k (take (length (capture_of rows)) s) 0 (2 * length rows + 1)) w.1
    ∙ ap (λ (s : List ℕ). walk k s 0 (2 * length rows + 1)) (take-append_seam (capture_of rows) (drop (length (capture_of rows)) room))
    ∙ walked rows f k b in
    (length (capture_of rows), (w.0, again))

given-fit : (marks sizes bodies : List ℕ) → sum sizes ≡ length bodies → pairs_fit marks sizes ≡ true → all_fit (rows_given marks sizes bodies) ≡ true
unfolding rows_given all_fit pairs_fit sum
given-fit [] sizes bodies t e = refl
given-fit (m ∷ marks) [] bodies t e = refl
given-fit (m ∷ marks) (l ∷ sizes) bodies t e =
    let a : length (take l bodies) ≡ l = rw length-take (omega arith) in
    let b : sum sizes ≡ length (drop l bodies) = rw length-drop (omega arith) in
    let f = (and-eq-true_iff (fits m l) (pairs_fit marks sizes)).0 e in
    rw (a, f.0) (given-fit marks sizes (drop l bodies) b f.1)

-- what the writer serves is a capture
pub written_capture : ServedIsCapture
written_capture marks sizes bodies e =
    let g = given marks sizes bodies e in
    (rows_given marks sizes bodies, (rw (given_count marks sizes bodies g.even, le-leb (length marks) 255 g.byte) (given-fit marks sizes bodies g.total g.pairs), refl))
