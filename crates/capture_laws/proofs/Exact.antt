-- Bytes are a capture exactly when they are that of some rows, which they show; and no capture is longer than 1 + 255 × 39 bytes.
-- Assumes nothing.
use mathlib.Core.Path.{◌≡◌, refl, sym, ap, ◌∙◌}
use mathlib.Core.Bool.{true, and-eq-true_iff}
use mathlib.Core.List.{List, [], ◌∷◌, ◌++◌, append_assoc, append-nil}
use Prim.Native.Nat.{ℕ, zero, suc, ◌+◌, ◌-◌, ◌*◌, ◌≤◌, ◌<◌}
use native.Mathlib.Omega.{arith}
use lib.Dec.{leb}
use lib.ListN.{replicate, length-replicate, length, get_or, take, drop, length-append, length-take, length-drop, take-append-drop, drop_of_length-le}
use lib.Seq.{take-suc, drop-cons, split_at, take_all, drop-length, drop-drop, get_or_at, get_or-append-add, drop_at, take-append_seam, length-take-le}
use borrow.Author.Tests.{le-leb, leb-true}
use Rattle.capture.specs.Capture.{Row, fits, all_fit, RowsFit, table_of, row_bodies, capture_of, count_in, mark_in, length_in, place_in, rows_fit, is_capture}
use Rattle.capture.proofs.Check as capture
use Rattle.capture.proofs.Check.{place-start, Facts, facts, is}
use Rattle.capture_laws.specs.Laws.{CaptureExactly, row_in, rows_from, RowsBack, OneCapture, LongestCapture, fullest, LongestReached}

-- ---- rows, one after the other

table_append : (a b : List Row) → table_of (a ++ b) ≡ table_of a ++ table_of b
unfolding table_of
table_append [] b = refl
table_append (r ∷ a) b = rw (table_append a b)

bodies_append : (a b : List Row) → row_bodies (a ++ b) ≡ row_bodies a ++ row_bodies b
unfolding row_bodies
bodies_append [] b = refl
bodies_append (r ∷ a) b = rw (append_assoc, bodies_append a b)

table_length : (rows : List Row) → length (table_of rows) ≡ 2 * length rows
unfolding table_of
table_length [] = refl
table_length (r ∷ rows) = omega (arith, table_length rows)

pub capture_length : (rows : List Row) → length (capture_of rows) ≡ 2 * length rows + 1 + length (row_bodies rows)
capture_length rows = rw (length-append, table_length rows) (omega arith)

-- no row
abbrev none : Row
none = record { mark = 0; body = [] }

-- ---- what the bytes of a capture show

-- the capture, cut before a row
module _ (done : List Row) (r : Row) (rest : List Row) where
  abbrev all : List Row
  all = done ++ r ∷ rest

  front_length : length (length all ∷ table_of done) ≡ 2 * length done + 1
  front_length = omega (arith, table_length done)

  cut-rows : capture_of all ≡ (length all ∷ table_of done) ++ (r.mark ∷ (length r.body ∷ (table_of rest ++ row_bodies all)))
  unfolding table_of
  cut-rows = ap (λ (t : List ℕ). length all ∷ (t ++ row_bodies all)) (table_append done (r ∷ rest)) ∙ ap (λ (t : List ℕ). length all ∷ t) (append_assoc (table_of done) (table_of (r ∷ rest)) (row_bodies all))

  mark-here : mark_in (capture_of all) (length done) ≡ r.mark
  mark-here = ap (λ (s : List ℕ). get_or s (2 * length done + 1) 0) cut-rows ∙ get_or_at (length all ∷ table_of done) r.mark (length r.body ∷ (table_of rest ++ row_bodies all)) 0 (2 * length done + 1) front_length

  length-here : length_in (capture_of all) (length done) ≡ length r.body
  length-here =
      let front = length all ∷ table_of done in
      let back = r.mark ∷ (length r.body ∷ (table_of rest ++ row_bodies all)) in
      let at : 2 * length done + 2 ≡ length front + 1 = omega (arith, table_length done) in
      ap (λ (s : List ℕ). get_or s (2 * length done + 2) 0) cut-rows ∙ ap (λ (k : ℕ). get_or (front ++ back) k 0) at ∙ get_or-append-add front back 1 0

  body-here : take (length r.body) (drop (2 * length all + 1 + length (row_bodies done)) (capture_of all)) ≡ r.body
  unfolding row_bodies
  body-here =
      let front = length all ∷ (table_of all ++ row_bodies done) in
      let cut : capture_of all ≡ front ++ (r.body ++ row_bodies rest) = ap (λ (t : List ℕ). length all ∷ (table_of all ++ t)) (bodies_append done (r ∷ rest)) ∙ ap (λ (t : List ℕ). length all ∷ t) (sym (append_assoc (table_of all) (row_bodies done) (row_bodies (r ∷ rest)))) in
      let at : length front ≡ 2 * length all + 1 + length (row_bodies done) = rw (length-append, table_length all) (omega arith) in
      ap (λ (s : List ℕ). take (length r.body) (drop (2 * length all + 1 + length (row_bodies done)) s)) cut
      ∙ ap (λ (s : List ℕ). take (length r.body) s) (drop_at front (r.body ++ row_bodies rest) (2 * length all + 1 + length (row_bodies done)) at)
      ∙ take-append_seam r.body (row_bodies rest)

-- the row of a list of rows, by its number
abbrev nth : List Row → ℕ → Row
nth rows k = get_or rows k none

module _ (rows : List Row) (k : ℕ) (h : k < length rows) where
  cut_at : rows ≡ take k rows ++ nth rows k ∷ drop (suc k) rows
  cut_at = split_at rows k none h

  done-length : length (take k rows) ≡ k
  done-length = length-take-le k rows (omega arith)

  mark-at : mark_in (capture_of rows) k ≡ (nth rows k).mark
  mark-at = ap (λ (l : List Row). mark_in (capture_of l) k) cut_at ∙ ap (λ (i : ℕ). mark_in (capture_of (take k rows ++ nth rows k ∷ drop (suc k) rows)) i) (sym done-length) ∙ mark-here (take k rows) (nth rows k) (drop (suc k) rows)

  length_at : length_in (capture_of rows) k ≡ length (nth rows k).body
  length_at = ap (λ (l : List Row). length_in (capture_of l) k) cut_at ∙ ap (λ (i : ℕ). length_in (capture_of (take k rows ++ nth rows k ∷ drop (suc k) rows)) i) (sym done-length) ∙ length-here (take k rows) (nth rows k) (drop (suc k) rows)

  body_of : take (length (nth rows k).body) (drop (2 * length rows + 1 + length (row_bodies (take k rows))) (capture_of rows)) ≡ (nth rows k).body
  body_of = ap (λ (l : List Row). take (length (nth rows k).body) (drop (2 * length l + 1 + length (row_bodies (take k rows))) (capture_of l))) cut_at ∙ body-here (take k rows) (nth rows k) (drop (suc k) rows)

-- a row's place is past the rows of mark and length, and the bodies before
place_at : (rows : List Row) (k : ℕ) → k ≤ length rows → place_in (capture_of rows) k ≡ 2 * length rows + 1 + length (row_bodies (take k rows))
unfolding place_in row_bodies
place_at rows zero h = omega arith
place_at rows (suc k) h =
    let before = place_at rows k (omega arith) in
    let here = length_at rows k (omega arith) in
    let more : length (row_bodies (take (suc k) rows)) ≡ length (row_bodies (take k rows)) + length (nth rows k).body =
    ap (λ (l : List Row). length (row_bodies l)) (take-suc rows k none (omega arith)) ∙ ap length (bodies_append (take k rows) (nth rows k ∷ [])) ∙ length-append (row_bodies (take k rows)) (row_bodies (nth rows k ∷ [])) ∙ ap (λ (b : List ℕ). length (row_bodies (take k rows)) + length b) (append-nil (nth rows k).body) in
    omega arith

body_at : (rows : List Row) (k : ℕ) → k < length rows → take (length_in (capture_of rows) k) (drop (place_in (capture_of rows) k) (capture_of rows)) ≡ (nth rows k).body
body_at rows k h = rw (length_at rows k h, place_at rows k (omega arith)) (body_of rows k h)

nth_fits : (rows : List Row) (k : ℕ) → all_fit rows ≡ true → k < length rows → fits (nth rows k).mark (length (nth rows k).body) ≡ true
unfolding all_fit
nth_fits [] k e h = absurd (omega arith)
nth_fits (r ∷ rows) zero e h = ((and-eq-true_iff (fits r.mark (length r.body)) (all_fit rows)).0 e).0
nth_fits (r ∷ rows) (suc k) e h = nth_fits rows k ((and-eq-true_iff (fits r.mark (length r.body)) (all_fit rows)).0 e).1 (omega arith)

fit_at : (rows : List Row) (k : ℕ) → all_fit rows ≡ true → k ≤ length rows → rows_fit (capture_of rows) k ≡ true
unfolding rows_fit
fit_at rows zero e h = refl
fit_at rows (suc k) e h = rw (fit_at rows k e (omega arith), mark-at rows k (omega arith), length_at rows k (omega arith)) (nth_fits rows k e (omega arith))

-- the capture of rows is a capture
pub capture_is : (rows : List Row) → RowsFit rows → is_capture (capture_of rows) ≡ true
capture_is rows f =
    let both_fit = (and-eq-true_iff (leb (length rows) 255) (all_fit rows)).0 f in
    let n = capture_length rows in
    let end : place_in (capture_of rows) (length rows) ≡ length (capture_of rows) = place_at rows (length rows) (omega arith) ∙ ap (λ (l : List Row). 2 * length rows + 1 + length (row_bodies l)) (take_all (length rows) rows (omega arith)) ∙ sym n in
    is (capture_of rows) (record { byte = leb-true (length rows) 255 both_fit.0; table = omega arith; rows = fit_at rows (length rows) both_fit.1 (omega arith); end = end })

-- ---- the rows of a capture's bytes

rows_count : (s : List ℕ) (k m : ℕ) → length (rows_from s k m) ≡ m
unfolding rows_from
rows_count s k zero = refl
rows_count s k (suc m) = ap suc (rows_count s (suc k) m)

place_suc : (s : List ℕ) (k : ℕ) → place_in s (suc k) ≡ place_in s k + length_in s k
unfolding place_in
place_suc s k = refl

-- places never fall
pub place_le : (s : List ℕ) (k m n : ℕ) → k + m ≡ n → place_in s k ≤ place_in s n
place_le s k zero n e = let same : k ≡ n = omega arith in rw same (omega arith)
place_le s k (suc m) n e = omega (arith, place_suc s k, place_le s (suc k) m n (omega arith))

pub fit_one : (s : List ℕ) (k m n : ℕ) → suc k + m ≡ n → rows_fit s n ≡ true → fits (mark_in s k) (length_in s k) ≡ true
unfolding rows_fit
fit_one s k m zero e h = absurd (omega arith)
fit_one s k zero (suc n) e h = let same : k ≡ n = omega arith in rw same ((and-eq-true_iff (rows_fit s n) (fits (mark_in s n) (length_in s n))).0 h).1
fit_one s k (suc m) (suc n) e h = fit_one s k m n (omega arith) ((and-eq-true_iff (rows_fit s n) (fits (mark_in s n) (length_in s n))).0 h).0

module _ (s : List ℕ) (f : Facts s) where
  -- a row's body lies inside the bytes
  pub row_inside : (k : ℕ) → k < count_in s → place_in s k + length_in s k ≤ length s
  row_inside k h = omega (arith, place_suc s k, place_le s (suc k) (count_in s - suc k) (count_in s) (omega arith), f.end)

  body-length : (k : ℕ) → k < count_in s → length (row_in s k).body ≡ length_in s k
  unfolding row_in
  body-length k h = rw (length-take, length-drop) (omega (arith, row_inside k h))

  rows-bodies : (k m : ℕ) → k + m ≡ count_in s → row_bodies (rows_from s k m) ≡ drop (place_in s k) s
  unfolding row_bodies rows_from row_in
  rows-bodies k zero e =
      let last : k ≡ count_in s = omega arith in
      sym (ap (λ (i : ℕ). drop (place_in s i) s) last ∙ ap (λ (i : ℕ). drop i s) f.end ∙ drop-length s)
  rows-bodies k (suc m) e =
      ap (λ (b : List ℕ). take (length_in s k) (drop (place_in s k) s) ++ b) (rows-bodies (suc k) m (omega arith) ∙ ap (λ (i : ℕ). drop i s) (place_suc s k) ∙ sym (drop-drop (length_in s k) (place_in s k) s))
      ∙ take-append-drop (length_in s k) (drop (place_in s k) s)

  rows-table : (k m : ℕ) → k + m ≡ count_in s → table_of (rows_from s k m) ++ drop (2 * count_in s + 1) s ≡ drop (2 * k + 1) s
  unfolding table_of rows_from row_in
  rows-table k zero e = let last : count_in s ≡ k = omega arith in ap (λ (i : ℕ). drop (2 * i + 1) s) last
  rows-table k (suc m) e =
      let next : 2 * suc k + 1 ≡ suc (2 * k + 2) = omega arith in
      let two : suc (2 * k + 1) ≡ 2 * k + 2 = omega arith in
      let inside : 2 * k + 2 < length s = omega (arith, f.table) in
      ap (λ (l : ℕ). mark_in s k ∷ (l ∷ (table_of (rows_from s (suc k) m) ++ drop (2 * count_in s + 1) s))) (body-length k (omega arith))
      ∙ ap (λ (t : List ℕ). mark_in s k ∷ (length_in s k ∷ t)) (rows-table (suc k) m (omega arith) ∙ ap (λ (i : ℕ). drop i s) next)
      ∙ ap (λ (t : List ℕ). mark_in s k ∷ t) (sym (drop-cons s (2 * k + 2) 0 inside) ∙ ap (λ (i : ℕ). drop i s) (sym two))
      ∙ sym (drop-cons s (2 * k + 1) 0 (omega arith))

  rows-fit : (k m : ℕ) → k + m ≡ count_in s → all_fit (rows_from s k m) ≡ true
  unfolding all_fit rows_from row_in
  rows-fit k zero e = refl
  rows-fit k (suc m) e = rw (body-length k (omega arith), fit_one s k m (count_in s) (omega arith) f.rows) (rows-fit (suc k) m (omega arith))

  -- the bytes are the capture of their rows
  capture-back : s ≡ capture_of (rows_from s 0 (count_in s))
  capture-back =
      let rows = rows_from s 0 (count_in s) in
      let bodies : row_bodies rows ≡ drop (2 * count_in s + 1) s = rows-bodies 0 (count_in s) (omega arith) ∙ ap (λ (i : ℕ). drop i s) (sym (place-start s)) in
      drop-cons s 0 0 (omega (arith, f.table))
      ∙ ap (λ (t : List ℕ). count_in s ∷ t) (sym (rows-table 0 (count_in s) (omega arith)) ∙ ap (λ (b : List ℕ). table_of rows ++ b) (sym bodies))
      ∙ ap (λ (n : ℕ). n ∷ (table_of rows ++ row_bodies rows)) (sym (rows_count s 0 (count_in s)))

  rows-fit-all : RowsFit (rows_from s 0 (count_in s))
  rows-fit-all = rw (rows_count s 0 (count_in s), le-leb (count_in s) 255 f.byte) (rows-fit 0 (count_in s) (omega arith))

-- bytes are a capture exactly when they are that of some rows
pub exactly : CaptureExactly
exactly s = (
  λ e. (rows_from s 0 (count_in s), (rows-fit-all s (facts s e), capture-back s (facts s e))),
  λ c. ap is_capture c.1.1 ∙ capture_is c.0 c.1.0,
)

-- a capture shows the very rows it was made of
rows_back_from : (rows : List Row) (k m : ℕ) → k + m ≡ length rows → rows_from (capture_of rows) k m ≡ drop k rows
unfolding rows_from row_in
rows_back_from rows k zero e = sym (drop_of_length-le rows {i = k} (omega arith))
rows_back_from rows k (suc m) e =
    let s = capture_of rows in
    let one : row_in s k ≡ nth rows k = ap (λ (m : ℕ). record { mark = m; body = take (length_in s k) (drop (place_in s k) s) }) (mark-at rows k (omega arith)) ∙ ap (λ (b : List ℕ). record { mark = (nth rows k).mark; body = b }) (body_at rows k (omega arith)) in
    ap (λ (r : Row). r ∷ rows_from s (suc k) m) one ∙ ap (λ (l : List Row). nth rows k ∷ l) (rows_back_from rows (suc k) m (omega arith)) ∙ sym (drop-cons rows k none (omega arith))

pub rows_back : RowsBack
rows_back rows = rows_back_from rows 0 (length rows) (omega arith)

-- different rows never give the same capture
pub distinct : OneCapture
distinct a b e =
    let n : length a ≡ length b = cc in
    sym (rows_back a) ∙ ap (λ (s : List ℕ). rows_from s 0 (length a)) e ∙ ap (rows_from (capture_of b) 0) n ∙ rows_back b

-- no capture is longer
pub longest : LongestCapture
longest s c = capture.longest s ((exactly s).1 c)

full_fit : (n : ℕ) → all_fit (fullest n) ≡ true
unfolding all_fit
full_fit zero = refl
full_fit (suc n) = full_fit n

full_bodies : (n : ℕ) → length (row_bodies (fullest n)) ≡ 37 * n
unfolding row_bodies
full_bodies zero = refl
full_bodies (suc n) = rw length-append (omega (arith, full_bodies n))

-- 255 such rows make one that long
pub reached : LongestReached
reached n h =
    let count : length (fullest n) ≡ n = length-replicate n (record { mark = 1; body = replicate 37 0 }) in
    ((fullest n, (rw (count, le-leb n 255 h) (full_fit n), refl)), omega (arith, capture_length (fullest n), full_bodies n))
