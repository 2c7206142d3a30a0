-- One row more: the step takes the figures of the first rows to those of the rows with the next.
-- Assumes nothing.
use Rattle.std.proofs.Common.{◌≡◌, ℕ, ◌+◌, ◌*◌, ◌≤◌, ◌<◌, Bool, true, false, cond, List, [], ◌∷◌, ◌++◌, length, get_or, take, drop, Result, Ok, Err, refl, sym, ap, ◌∙◌, subst, add-one, arith}
use mathlib.Core.Bool.{◌||◌, or-false}
use lib.Dec.{ltb}
use lib.Seq.{take-suc, length-take-le}
use Rattle.std.proofs.lemmas.List.{take_all, take-append-drop}
use borrow.Author.Tests.{lt-ltb, le-ltb, ltb-true, ltb-false}
use Rattle.refusals.specs.declared.Refusal.{Refusal}
use Rattle.refusals.specs.declared.Refusal.TheVariants.{TooManyRows, BadRow}
use Rattle.shelf.specs.declared.Row.{Row}
use Rattle.shelf.specs.Shelf.{any_bad, total, total_remaining, total_full, lowest_from, no_row, figures, report_of}
use Rattle.shelf_row.specs.Rows.{is_bad, is_low, begun, no_rows}
use Rattle.shelf_row.specs.Step.{figures_with, counted_in, Fits}
use Rattle.shelf_row.specs.declared.Figures.{Figures}
use Rattle.shelf.proofs.Lists.{bad_append, length_one, total_one, low_most, good_full}
use Rattle.shelf.proofs.Low.{all_full, lowest_more}

-- ---- the three cases of a report

-- more than 64 rows
pub report_large : (rows : List Row) → 64 < length rows → report_of rows ≡ Err TooManyRows
unfolding report_of
report_large rows h = rw (lt-ltb 64 (length rows) h)

-- a bad row
pub report_bad : (rows : List Row) → length rows ≤ 64 → any_bad rows ≡ true → report_of rows ≡ Err BadRow
unfolding report_of
report_bad rows h b = rw (le-ltb 64 (length rows) h, b)

-- neither
pub report_good : (rows : List Row) → length rows ≤ 64 → any_bad rows ≡ false → report_of rows ≡ Ok (figures rows)
unfolding report_of
report_good rows h b = rw (le-ltb 64 (length rows) h, b)

-- ---- a row more

module _ (t : Figures) (r f d : ℕ) where
  -- a step that gives figures was given a row that isn't bad
  good_step : {u : Figures} → figures_with t r f d ≡ Ok u → is_bad r f d ≡ false
  unfolding figures_with
  good_step {u} e = by (is_bad r f d) refl
    where
      by : (b : Bool) → is_bad r f d ≡ b → is_bad r f d ≡ false
      by true h = let z : ◌≡◌ {A = Result Figures Refusal} (Err BadRow) (Ok u) = rw h at e in cc
      by false h = h

  -- and one that gives none, a bad one
  bad_step : {e : Refusal} → figures_with t r f d ≡ Err e → (is_bad r f d ≡ true) × (e ≡ BadRow)
  unfolding figures_with
  bad_step {e} h = by (is_bad r f d) refl
    where
      by : (b : Bool) → is_bad r f d ≡ b → (is_bad r f d ≡ true) × (e ≡ BadRow)
      by true k = (k, let z : ◌≡◌ {A = Result Figures Refusal} (Err BadRow) (Err e) = rw k at h in cc)
      by false k = let z : ◌≡◌ {A = Result Figures Refusal} (Ok (counted_in t r f)) (Err e) = rw k at h in cc

-- the figures with a good row more
figures_more : (xs : List Row) (x : Row) → any_bad xs ≡ false → is_bad x.remaining x.full x.design ≡ false
    → figures_with (figures xs) x.remaining x.full x.design ≡ Ok (figures (xs ++ (x ∷ [])))
unfolding figures_with
figures_more xs x g h =
    rw h
    (simp (
      length_one xs x,
      total_one (λ (r : Row). r.remaining) xs x,
      total_one (λ (r : Row). r.full) xs x,
      total_one (λ (r : Row). cond (is_low r.remaining r.full) 1 0) xs x,
      lowest_more xs x (all_full xs g) (good_full x.remaining x.full x.design h),
    ))

-- no total passes 65,535 for each row
abbrev pub Small : List Row → Type 0
Small rows = (total_remaining rows ≤ 65535 * length rows) × (total_full rows ≤ 65535 * length rows)

small_more : (xs : List Row) (x : Row) → x.remaining < 65536 → x.full < 65536 → Small xs → Small (xs ++ (x ∷ []))
small_more xs x a b s = (
  omega (arith, length_one xs x, total_one (λ (r : Row). r.remaining) xs x),
  omega (arith, length_one xs x, total_one (λ (r : Row). r.full) xs x),
)

-- ---- a loop over the rows of a table

-- the first i of at most 64 rows are read: none is bad, and the figures are theirs
pub record Read (rows : List Row) (i : ℕ) (t : Figures) : Type 0 where
  pub few : length rows ≤ 64
  pub fine : any_bad (take i rows) ≡ false
  pub is : t ≡ figures (take i rows)
  pub small : Small (take i rows)

-- before any row
pub read_none : (rows : List Row) {t : Figures} → begun (length rows) ≡ Ok t → Read rows 0 t
unfolding any_bad total lowest_from
read_none rows {t} e = by (ltb 64 (length rows)) refl
  where
    by : (b : Bool) → ltb 64 (length rows) ≡ b → Read rows 0 t
    by true h = let z : ◌≡◌ {A = Result Figures Refusal} (Err TooManyRows) (Ok t) = rw h at e in absurd (cc)
    by false h =
        let z : ◌≡◌ {A = Result Figures Refusal} (Ok no_rows) (Ok t) = rw h at e in
        record { few = ltb-false 64 (length rows) h; fine = refl; is = cc; small = (omega arith, omega arith) }

pub read_many : (rows : List Row) {e : Refusal} → begun (length rows) ≡ Err e → report_of rows ≡ Err e
read_many rows {e} k = by (ltb 64 (length rows)) refl
  where
    by : (b : Bool) → ltb 64 (length rows) ≡ b → report_of rows ≡ Err e
    by true h = report_large rows (ltb-true 64 (length rows) h) ∙ rw h at k
    by false h = let z : ◌≡◌ {A = Result Figures Refusal} (Ok no_rows) (Err e) = rw h at k in absurd (cc)

-- some of the rows are bad
bad_taken : (rows : List Row) (n : ℕ) → any_bad (take n rows) ≡ true → any_bad rows ≡ true
bad_taken rows n h = ap any_bad (sym (take-append-drop n rows)) ∙ bad_append (take n rows) (drop n rows) ∙ ap (λ (b : Bool). b || any_bad (drop n rows)) h

module _ (rows : List Row) (i : ℕ) {t : Figures} (so : Read rows i t) (l : i < length rows) where
  abbrev x : Row
  x = get_or rows i no_row

  taken : take (i + 1) rows ≡ take i rows ++ (x ∷ [])
  taken = ap (λ (k : ℕ). take k rows) (add-one i) ∙ take-suc rows i no_row l

  long : length (take i rows) ≡ i
  long = length-take-le i rows (omega arith)

  one_bad : any_bad (take (i + 1) rows) ≡ is_bad x.remaining x.full x.design
  unfolding any_bad
  one_bad = ap any_bad taken ∙ bad_append (take i rows) (x ∷ []) ∙ rw so.fine (or-false _)

  pub read-fits : Fits t
  read-fits =
      let few = so.few in
      let small = so.small in
      let f : Fits (figures (take i rows)) = record { packs = omega (arith, long); remaining = omega (arith, long); full = omega (arith, long); low = omega (arith, long, low_most (take i rows)) } in
      rw so.is f

  pub read-more : {u : Figures} → x.remaining < 65536 → x.full < 65536 → figures_with t x.remaining x.full x.design ≡ Ok u → Read rows (i + 1) u
  read-more {u} a b e =
      let good = good_step t x.remaining x.full x.design e in
      let more = figures_more (take i rows) x so.fine good in
      let z : Ok u ≡ Ok (figures (take i rows ++ (x ∷ []))) = sym e ∙ ap (λ (f : Figures). figures_with f x.remaining x.full x.design) so.is ∙ more in
      let is : u ≡ figures (take i rows ++ (x ∷ [])) = cc in
      record {
        few = so.few;
        fine = one_bad ∙ good;
        is = is ∙ ap figures (sym taken);
        small = subst Small (sym taken) (small_more (take i rows) x a b so.small);
      }

  pub read-bad : {e : Refusal} → figures_with t x.remaining x.full x.design ≡ Err e → report_of rows ≡ Err e
  read-bad {e} h =
      let b = bad_step t x.remaining x.full x.design h in
      report_bad rows so.few (bad_taken rows (i + 1) (one_bad ∙ b.0)) ∙ ap Err (sym b.1)

pub read_all : (rows : List Row) (i : ℕ) {t : Figures} → Read rows i t → length rows ≤ i → report_of rows ≡ Ok t
read_all rows i so h =
    let all : take i rows ≡ rows = take_all i rows h in
    report_good rows so.few (ap any_bad (sym all) ∙ so.fine) ∙ ap Ok (sym (so.is ∙ ap figures all))
