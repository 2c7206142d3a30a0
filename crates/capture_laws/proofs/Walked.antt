-- The walk over a capture visits every row once, in order, and ends at the exact end; other bytes show no row.
-- Assumes nothing.
use mathlib.Core.Path.{◌≡◌, refl, sym, ap, subst, ◌∙◌}
use mathlib.Core.Bool.{Bool, true, false, cond, and-eq-true_iff, and-true, and-false}
use mathlib.Core.List.{List, [], ◌∷◌}
use Prim.Native.Nat.{ℕ, zero, suc, ◌+◌, ◌-◌, ◌*◌, ◌≤◌, ◌<◌}
use native.Mathlib.Numerals.{add-one}
use native.Mathlib.Omega.{arith}
use lib.Dec.{ltb, leb}
use lib.ListN.{length, take, drop}
use borrow.Author.Tests.{ltb-true, ltb-false, leb-true, le-leb, lt-leb}
use Rattle.std.specs.Prelude.{Some, None, Ok, Err}
use Rattle.refusals.specs.declared.Refusal.TheVariants.{NotACapture}
use Rattle.refusals.specs.Numbers.{answer_of}
use Rattle.capture.specs.declared.Step.{Step}
use Rattle.capture.specs.Capture.{Row, capture_of, count_in, mark_in, length_in, place_in, is_capture}
use Rattle.capture.specs.Walk.{opened_of, first_place, Shows, has_row, seen_bad, step_at, body_at, follow, walk}
use Rattle.capture.proofs.Check.{facts, longest, place-more, place-start}
use Rattle.capture.proofs.Steps.{opened, opened-not, here, has-row, shown-good, good_row, good_past, step_start, step_past, step-next, body-next, body-none}
use Rattle.capture_laws.specs.Laws.{row_in, rows_from, WalkVisitsAll, ExactEnd, has_row_whole, step_whole, body_whole, StepAsWhole, OthersRefused, StepAnswer, SeenRightly, OpenedAnswer, WalkFromOpening}
use Rattle.capture_laws.proofs.Exact.{capture_is, place_le, fit_one, row_inside, rows_back}

module _ (s : List ℕ) (e : is_capture s ≡ true) where
  row_fits : (row : ℕ) → row < count_in s → (mark_in s row ≤ 1) × (length_in s row ≤ 37)
  row_fits row h =
      let f = (and-eq-true_iff (leb (mark_in s row) 1) (leb (length_in s row) 37)).0 (fit_one s row (count_in s - suc row) (count_in s) (omega arith) (facts s e).rows) in
      (leb-true (mark_in s row) 1 f.0, leb-true (length_in s row) 37 f.1)

  row_here : (row : ℕ) → row < count_in s → has_row s row (place_in s row) ≡ true
  row_here row h =
      let f = row_fits row h in
      let past : 2 * count_in s + 1 ≤ place_in s row = omega (arith, place-start s, place_le s 0 row row (omega arith)) in
      has-row s row (place_in s row) (record { below = h; mark = f.0; size = f.1; past = past; within = row_inside s (facts s e) row h; most = longest s e })

  -- at a row's place the step shows the row, and goes on to the next row's place
  pub step_row : (row : ℕ) → row < count_in s → step_at s row (place_in s row) ≡ Ok (Some (record { mark = mark_in s row; row = row + 1; place = place_in s (row + 1) }))
  step_row row h = step-next s row (place_in s row) (row_here row h) ∙ ap (λ (p : ℕ). Ok (Some (record { mark = mark_in s row; row = row + 1; place = p }))) (sym (place-more s row))

  body-row : (row : ℕ) → row < count_in s → body_at s row (place_in s row) ≡ take (length_in s row) (drop (place_in s row) s)
  body-row row h = body-next s row (place_in s row) (row_here row h)

  past-last : (row place : ℕ) → count_in s ≤ row → 0 < place → step_at s row place ≡ Ok None
  past-last row place h p = step_past s row place p (facts s e).table (longest s e) h

  pub last-place : 0 < place_in s (count_in s)
  last-place = omega (arith, (facts s e).table, (facts s e).end)

  walk_from : (k row m : ℕ) → row + m ≡ count_in s → m ≤ k → walk k s row (place_in s row) ≡ rows_from s row m
  unfolding walk rows_from row_in
  walk_from zero row zero h b = refl
  walk_from zero row (suc m) h b = absurd (omega arith)
  walk_from (suc k) row zero h b =
      let last : row ≡ count_in s = omega arith in
      ap (λ (t : Shows). follow t (body_at s row (place_in s row)) (walk k s)) (past-last row (place_in s row) (omega arith) (rw last last-place))
  walk_from (suc k) row (suc m) h b =
      let here : row < count_in s = omega arith in
      ap (λ (t : Shows). follow t (body_at s row (place_in s row)) (walk k s)) (step_row row here)
      ∙ ap (λ (b : List ℕ). record { mark = mark_in s row; body = b } ∷ walk k s (row + 1) (place_in s (row + 1))) (body-row row here)
      ∙ ap (λ (r : ℕ). row_in s row ∷ walk k s r (place_in s r)) (add-one row)
      ∙ ap (λ (l : List Row). row_in s row ∷ l) (walk_from k (suc row) m (omega arith) (omega arith))

-- every row once, in order, and no more
pub walked : WalkVisitsAll
walked rows f k h = ap (walk k (capture_of rows) 0) (place-start (capture_of rows)) ∙ walk_from (capture_of rows) (capture_is rows f) k 0 (length rows) (omega arith) h ∙ rows_back rows

-- the last place is the exact end, and there the walk ends
pub exact_end : ExactEnd
exact_end s e = ((facts s e).end, λ place p. past-last s e (count_in s) place (omega arith) p)

-- of a capture, a step sees nothing bad but place 0
pub seen_rightly : SeenRightly
seen_rightly s e row place p = tested (ltb row (count_in s)) refl
  where
    tested : (b : Bool) → ltb row (count_in s) ≡ b → seen_bad s row place ≡ false
    tested true i = let f = row_fits s e row (ltb-true row (count_in s) i) in good_row s row place p (facts s e).table (longest s e) (simp (le-leb _ _ f.0, le-leb _ _ f.1))
    tested false i = good_past s row place p (facts s e).table (longest s e) (ltb-false row (count_in s) i)

-- of a capture, a row at a place past the table is what a test of the whole says
has_same : (s : List ℕ) → is_capture s ≡ true → (row place : ℕ) → place_in s 0 ≤ place → has_row s row place ≡ has_row_whole s row place
has_same s e row place past = tested (ltb row (count_in s)) refl
  where
    tested : (b : Bool) → ltb row (count_in s) ≡ b → has_row s row place ≡ has_row_whole s row place
    tested true i =
        let f = row_fits s e row (ltb-true row (count_in s) i) in
        simp (e, i, le-leb _ _ f.0, le-leb _ _ f.1, le-leb _ _ past, le-leb _ _ (longest s e), and-true)
    tested false i = simp (e, i)

-- and so are the step and the body
pub as_whole : StepAsWhole
unfolding step_at body_at step_whole body_whole
as_whole s e row place past =
    let same = has_same s e row place past in
    let shown = here s row place in
    let good = seen_rightly s e row place (omega (arith, past, place-start s)) in (
      ap (λ (b : Bool). cond b shown (cond (seen_bad s row place) (Err NotACapture) (Ok None))) same
          ∙ ap (λ (c : Bool). cond (has_row_whole s row place) shown (cond c (Err NotACapture) (Ok None))) good
          ∙ ap (λ (c : Bool). cond (has_row_whole s row place) shown (cond c (Ok None) (Err NotACapture))) (sym e),
      ap (λ (b : Bool). cond b (take (length_in s row) (drop place s)) []) same,
    )

-- a step's number is 14 exactly where it sees bad bytes
pub step_answer : StepAnswer
unfolding step_at
step_answer s row place = by_cases (has_row s row place) (seen_bad s row place) _ (shown-good s row place)
  where
    by_cases : (b c : Bool) (step : Step) → (b ≡ true → c ≡ false) → answer_of (cond b (Ok (Some step)) (cond c (Err NotACapture) (Ok None))) ≡ cond c 14 0
    by_cases true c step h = rw (h refl)
    by_cases false true step h = refl
    by_cases false false step h = refl

-- ---- from opening

-- where a capture opens, and where other bytes do
opened_at : (s : List ℕ) → is_capture s ≡ true → place_in s 0 ≡ first_place (opened_of s)
opened_at s e = sym (place-start s) ∙ ap first_place (opened s (count_in s) e refl)

opened_none : (s : List ℕ) → is_capture s ≡ false → 0 ≡ first_place (opened_of s)
opened_none s e = ap first_place (opened-not s e)

-- bytes that aren't a capture are refused from where they open
pub others_refused : OthersRefused
others_refused s e = (sym (opened-not s e), sym (opened_none s e), λ row. subst (λ (p : ℕ). (step_at s row p ≡ Err NotACapture) × (body_at s row p ≡ [])) (opened_none s e) (step_start s row 0 refl, sym (body-none s row 0 (no_row row))))
  where
    no_row : (row : ℕ) → has_row s row 0 ≡ false
    no_row row = simp (← place-start s, lt-leb (2 * count_in s + 1) 0 (omega arith), and-false)

pub opened_answer : OpenedAnswer
opened_answer s row = tested (is_capture s) refl
  where
    tested : (b : Bool) → is_capture s ≡ b → answer_of (step_at s row (first_place (opened_of s))) ≡ cond b 0 14
    tested true e =
        step_answer s row (first_place (opened_of s))
        ∙ ap (λ (c : Bool). cond c 14 0) (seen_rightly s e row (first_place (opened_of s)) (omega (arith, opened_at s e, place-start s)))
    tested false e = ap (λ (p : ℕ). answer_of (step_at s row p)) (sym (opened_none s e)) ∙ ap answer_of (step_start s row 0 refl)

-- of a capture its rows, of other bytes none
pub walk_opened : WalkFromOpening
unfolding walk
walk_opened s k h = tested (is_capture s) refl
  where
    none-shown : (k : ℕ) → walk k s 0 0 ≡ []
    none-shown zero = refl
    none-shown (suc k) = ap (λ (t : Shows). follow t (body_at s 0 0) (walk k s)) (step_start s 0 0 refl)

    tested : (b : Bool) → is_capture s ≡ b → walk k s 0 (first_place (opened_of s)) ≡ cond b (rows_from s 0 (count_in s)) []
    tested true e = ap (walk k s 0) (sym (opened_at s e)) ∙ walk_from s e k 0 (count_in s) (omega arith) h
    tested false e = ap (walk k s 0) (sym (opened_none s e)) ∙ none-shown k
