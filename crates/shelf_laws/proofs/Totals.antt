-- Totals and counts: they are the sums, they fit, and they split where the table does.
-- Assumes nothing.
use mathlib.Core.Path.{◌≡◌, refl, sym, ◌∙◌}
use mathlib.Core.Bool.{Bool, true, false, cond}
use mathlib.Core.List.{List, [], ◌∷◌, ◌++◌}
use Prim.Native.Nat.{ℕ, ◌+◌, ◌*◌, ◌≤◌, ◌<◌}
use native.Mathlib.Omega.{arith}
use lib.ListN.{length, length-append}
use Rattle.std.specs.Prelude.{Ok}
use Rattle.shelf.specs.Shelf.{any_bad, total, low_count, lowest_from, figures, report_of}
use Rattle.shelf.specs.declared.Row.{Row}
use Rattle.shelf_row.specs.Rows.{is_low, shown}
use Rattle.shelf_row.specs.declared.Figures.{Figures}
use Rattle.shelf.proofs.Lists.{or_left, or_right, bad_append, total_append, low_most}
use Rattle.shelf_laws.specs.Promises.{OfWords, Words, low_rows, TotalsAreSums, TotalsFit, CountsFit, Joined, Splits}
use Rattle.shelf_laws.proofs.Cases.{served, good_is}
use Rattle.shelf_laws.proofs.Lowest.{lowest_row}

-- ---- sums

count_is : (rows : List Row) → low_count rows ≡ length (low_rows rows)
unfolding total low_rows
count_is [] = refl
count_is (r ∷ rows) = one (is_low r.remaining r.full) (count_is rows)
  where
    one : (b : Bool) → low_count rows ≡ length (low_rows rows) → cond b 1 0 + low_count rows ≡ length (cond b (r ∷ low_rows rows) (low_rows rows))
    one true h = omega arith
    one false h = omega arith

pub totals_are_sums : TotalsAreSums
totals_are_sums rows f h = let s : f ≡ figures rows = (served rows f h).1 in rw s (record { packs = refl; remaining = refl; full = refl; low = count_is rows })

-- ---- fit

-- a total of words
total_most : (of : Row → ℕ) → ((r : Row) → OfWords r → of r < 65536) → (rows : List Row) → Words rows → total of rows ≤ 65535 * length rows
unfolding total
total_most of word [] w = omega arith
total_most of word (r ∷ rows) w = omega (arith, word r w.0, total_most of word rows w.1)

pub totals_fit : TotalsFit
totals_fit rows f h w =
    let s = served rows f h in
    let few = s.0.few in
    rw s.1 (
      omega (arith, total_most (λ (r : Row). r.remaining) (λ r o. o.remaining) rows w),
      omega (arith, total_most (λ (r : Row). r.full) (λ r o. o.full) rows w),
      omega arith,
    )

place_fits : (rows : List Row) (f : Figures) → report_of rows ≡ Ok f → length rows ≤ 64 → (shown f.lowest).place < 64
unfolding lowest_from
place_fits [] f h few = rw (served [] f h).1 (omega arith)
place_fits (r ∷ rows) f h few = let l = lowest_row (r ∷ rows) f h (omega arith) in rw l.1 (omega (arith, l.2.within))

pub counts_fit : CountsFit
counts_fit rows f h =
    let s = served rows f h in
    let few = s.0.few in
    (rw s.1 few, rw s.1 (omega (arith, low_most rows)), place_fits rows f h few)

-- ---- split

pub splits : Splits
splits xs ys whole h =
    let s = served (xs ++ ys) whole h in
    let n : length (xs ++ ys) ≡ length xs + length ys = length-append xs ys in
    let most = s.0.few in
    let fine = sym (bad_append xs ys) ∙ s.0.fine in
    let a = good_is xs (omega arith) (or_left (any_bad xs) (any_bad ys) fine) in
    let b = good_is ys (omega arith) (or_right (any_bad xs) (any_bad ys) fine) in
    let joined : Joined (figures xs) (figures ys) (figures (xs ++ ys)) = record {
      packs = n;
      remaining = total_append (λ (r : Row). r.remaining) xs ys;
      full = total_append (λ (r : Row). r.full) xs ys;
      low = total_append (λ (r : Row). cond (is_low r.remaining r.full) 1 0) xs ys;
    } in
    (figures xs, (figures ys, (a.is, (b.is, rw s.1 joined))))
