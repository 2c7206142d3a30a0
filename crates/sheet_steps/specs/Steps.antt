-- The steps of an edit, as the code takes them. Definitions: assumes nothing.
use Rattle.std.specs.Prelude.{cond, List, [], ◌∷◌, ℕ, zero, suc, ◌+◌, ◌*◌, ◌-◌, ◌/◌, ◌%◌, ltb, length, get_or, set}
use Rattle.moves.specs.Moves.{cut_out, inserted}
use Rattle.sheet.specs.Sheet.{tag_at, length_at, offset_at}
use Rattle.sheet_steps.specs.declared.Span.{Span}

-- how many of n rows from byte `at` on have tags below a tag
unfoldable pub count_below : ℕ → List ℕ → ℕ → ℕ → ℕ
count_below zero s at tag = 0
count_below (suc n) s at tag = cond (ltb (tag_at s at) tag) 1 0 + count_below n s (at + 4) tag

-- where the body of row k of n starts; past the last, where the sheet ends
unfoldable pub place_in : List ℕ → ℕ → ℕ → ℕ
place_in s n k = cond (ltb k n) (offset_at s (1 + 4 * k)) (length s)

-- the rows with a tag, from the first to past the last, and their bodies
unfoldable pub span_in : List ℕ → ℕ → ℕ → Span
span_in s n tag = record {
  row = count_below n s 1 tag;
  past = count_below n s 1 (tag + 1);
  from = place_in s n (count_below n s 1 tag);
  to = place_in s n (count_below n s 1 (tag + 1));
}

-- n rows from byte `at` on get new offsets: the first `end`, each next one past the body before
unfoldable pub laid_rows : ℕ → List ℕ → ℕ → ℕ → List ℕ
laid_rows zero s at end = s
laid_rows (suc n) s at end = laid_rows n (set (set s (at + 2) (end % 256)) (at + 3) (end / 256)) (at + 4) (end + length_at s at)

abbrev pub laid : ℕ → List ℕ → List ℕ
laid n s = laid_rows n s 1 (1 + 4 * n)

-- of a sheet of n rows in the first `size` bytes a span goes: the bodies, the rows, so many from the first byte; then new offsets
unfoldable pub taken_out : List ℕ → ℕ → ℕ → Span → List ℕ
taken_out s size n p =
    laid (n - (p.past - p.row))
    (set
    (cut_out (cut_out s size p.from (p.to - p.from)) (size - (p.to - p.from)) (1 + 4 * p.row) (4 * (p.past - p.row)))
    0
    (get_or s 0 0 - (p.past - p.row)))

-- a body comes in at `from`, a row for it as row `row`, and one to the first byte; then new offsets
unfoldable pub put_in : List ℕ → ℕ → ℕ → ℕ → ℕ → ℕ → List ℕ → List ℕ
put_in s size n row from tag body =
    laid (n + 1)
    (set
    (inserted (inserted s size from body) (size + length body) (1 + 4 * row) (tag ∷ length body ∷ 0 ∷ 0 ∷ []))
    0
    (get_or s 0 0 + 1))
