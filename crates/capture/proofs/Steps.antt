-- What stands at a row and a place, case by case. Assumes nothing.
use mathlib.Core.Path.{◌≡◌, refl, sym, ap, ◌∙◌}
use mathlib.Core.Bool.{Bool, true, false, cond, ◌&&◌, and-false, or-true, and-eq-true_iff, true≢false}
use Rattle.std.specs.Prelude.{Some, None, Ok, Err}
use Rattle.refusals.specs.declared.Refusal.{Refusal}
use Rattle.refusals.specs.declared.Refusal.TheVariants.{NotACapture}
use mathlib.Core.List.{List, []}
use Prim.Native.Nat.{ℕ, ◌+◌, ◌-◌, ◌*◌, ◌≤◌, ◌<◌}
use native.Mathlib.Omega.{arith}
use native.Mathlib.Nat.{zero-add}
use lib.Dec.{ltb, leb}
use lib.ListN.{length, take, drop}
use borrow.Author.Tests.{lt-ltb, le-ltb, le-leb, lt-leb, ne_eqb, ltb-true, leb-true}
use Rattle.capture.specs.declared.Step.{Step}
use Rattle.capture.specs.Capture.{fits, capture_most, is_capture, count_in, mark_in, length_in, place_in}
use Rattle.rooms.specs.Rooms.{further}
use Rattle.capture.specs.Walk.{Shows, opened_of, has_row, seen_bad, step_at, body_at, body_place}
use Rattle.capture.proofs.Check.{place-start}

module _ (s : List ℕ) where
  pub opened : (n : ℕ) → is_capture s ≡ true → n ≡ count_in s → Ok (record { rows = n; place = 2 * n + 1 }) ≡ opened_of s
  unfolding opened_of
  opened n e h = simp (e, h, ← place-start)

  pub opened-not : is_capture s ≡ false → Err NotACapture ≡ opened_of s
  unfolding opened_of
  opened-not e = simp e

-- what a row is that a step shows
pub record Shown (s : List ℕ) (row place : ℕ) : Type 0 where
  pub below : row < count_in s
  pub mark : mark_in s row ≤ 1
  pub size : length_in s row ≤ 37
  pub past : 2 * count_in s + 1 ≤ place
  pub within : place + length_in s row ≤ length s
  pub most : length s ≤ capture_most

module _ (s : List ℕ) (row place : ℕ) where
  pub has-row : Shown s row place → has_row s row place ≡ true
  has-row h = simp (lt-ltb _ _ h.below, le-leb _ _ h.mark, le-leb _ _ h.size, ← place-start, le-leb _ _ h.past, le-leb _ _ h.within, le-leb _ _ h.most)

  pub shown : has_row s row place ≡ true → Shown s row place
  shown e =
      let below = ltb row (count_in s) in
      let fit = fits (mark_in s row) (length_in s row) in
      let past = leb (place_in s 0) place in
      let within = leb (place + length_in s row) (length s) in
      let a = (and-eq-true_iff (below && fit && past && within) (leb (length s) capture_most)).0 e in
      let b = (and-eq-true_iff (below && fit && past) within).0 a.0 in
      let c = (and-eq-true_iff (below && fit) past).0 b.0 in
      let d = (and-eq-true_iff below fit).0 c.0 in
      let f = (and-eq-true_iff (leb (mark_in s row) 1) (leb (length_in s row) 37)).0 d.1 in
      let t = leb-true (place_in s 0) place c.1 in
      record {
        below = ltb-true row (count_in s) d.0;
        mark = leb-true (mark_in s row) 1 f.0;
        size = leb-true (length_in s row) 37 f.1;
        past = rw (← place-start s) at t;
        within = leb-true (place + length_in s row) (length s) b.1;
        most = leb-true (length s) capture_most a.1;
      }

  -- where it shows a row, it sees no bad bytes
  pub shown-good : has_row s row place ≡ true → seen_bad s row place ≡ false
  shown-good e =
      let h = shown e in
      let fit : fits (mark_in s row) (length_in s row) ≡ true = simp (le-leb _ _ h.mark, le-leb _ _ h.size) in
      simp (ne_eqb place 0 (omega (arith, h.past)), ← place-start, le-ltb (length s) (2 * count_in s + 1) (omega (arith, h.past, h.within)), le-ltb capture_most (length s) h.most, fit, and-false)

  abbrev pub here : Shows
  here = Ok (Some (record { mark = mark_in s row; row = row + 1; place = place + length_in s row }))

  step-bad : seen_bad s row place ≡ true → step_at s row place ≡ Err NotACapture
  unfolding step_at
  step-bad e = by_row (has_row s row place) (seen_bad s row place) shown-good e
    where
      by_row : (b c : Bool) → (b ≡ true → c ≡ false) → c ≡ true → cond b here (cond c (Err NotACapture) (Ok None)) ≡ Err NotACapture
      by_row true c h e = absurd (true≢false (sym e ∙ h refl))
      by_row false c h e = rw e

  -- ---- bytes that are seen to be no capture

  pub step_start : place ≡ 0 → step_at s row place ≡ Err NotACapture
  step_start e = step-bad (simp e)

  pub step_table : length s < 2 * count_in s + 1 → step_at s row place ≡ Err NotACapture
  step_table h = step-bad (simp (← place-start, lt-ltb _ _ h, or-true))

  pub step_most : capture_most < length s → step_at s row place ≡ Err NotACapture
  step_most h = step-bad (simp (lt-ltb _ _ h, or-true))

  pub step_misfit : row < count_in s → fits (mark_in s row) (length_in s row) ≡ false → step_at s row place ≡ Err NotACapture
  step_misfit b e = step-bad (simp (lt-ltb _ _ b, e, or-true))

  -- ---- no row in bytes that may be one

  step_end : has_row s row place ≡ false → seen_bad s row place ≡ false → step_at s row place ≡ Ok None
  unfolding step_at
  step_end h e = simp (h, e)

  pub good_row : 0 < place → 2 * count_in s + 1 ≤ length s → length s ≤ capture_most → fits (mark_in s row) (length_in s row) ≡ true → seen_bad s row place ≡ false
  good_row p t m f = simp (ne_eqb place 0 (omega arith), ← place-start, le-ltb _ _ t, le-ltb _ _ m, f, and-false)

  pub good_past : 0 < place → 2 * count_in s + 1 ≤ length s → length s ≤ capture_most → count_in s ≤ row → seen_bad s row place ≡ false
  good_past p t m h = simp (ne_eqb place 0 (omega arith), ← place-start, le-ltb _ _ t, le-ltb _ _ m, le-ltb _ _ h)

  pub step_past : 0 < place → 2 * count_in s + 1 ≤ length s → length s ≤ capture_most → count_in s ≤ row → step_at s row place ≡ Ok None
  step_past p t m h = step_end (simp (le-ltb _ _ h)) (good_past p t m h)

  pub step_before : 0 < place → 2 * count_in s + 1 ≤ length s → length s ≤ capture_most → fits (mark_in s row) (length_in s row) ≡ true → place < 2 * count_in s + 1 → step_at s row place ≡ Ok None
  step_before p t m f h = step_end (simp (← place-start, lt-leb _ _ h, and-false)) (good_row p t m f)

  pub step_long : 0 < place → 2 * count_in s + 1 ≤ length s → length s ≤ capture_most → fits (mark_in s row) (length_in s row) ≡ true → length s < place + length_in s row → step_at s row place ≡ Ok None
  step_long p t m f h = step_end (simp (lt-leb _ _ h, and-false)) (good_row p t m f)

  -- ---- a row

  pub step-next : has_row s row place ≡ true → step_at s row place ≡ here
  unfolding step_at
  step-next h = ap (λ (b : Bool). cond b here (cond (seen_bad s row place) (Err NotACapture) (Ok None))) h

  pub step_shows : row < count_in s → fits (mark_in s row) (length_in s row) ≡ true → 2 * count_in s + 1 ≤ place → place + length_in s row ≤ length s → length s ≤ capture_most → step_at s row place ≡ here
  step_shows b f p w m = step-next (simp (lt-ltb _ _ b, f, ← place-start, le-leb _ _ p, le-leb _ _ w, le-leb _ _ m))

  pub body-next : has_row s row place ≡ true → body_at s row place ≡ take (length_in s row) (drop place s)
  unfolding body_at
  body-next h = ap (λ (b : Bool). cond b (take (length_in s row) (drop place s)) []) h

  pub body-none : has_row s row place ≡ false → [] ≡ body_at s row place
  unfolding body_at
  body-none h = sym (ap (λ (b : Bool). cond b (take (length_in s row) (drop place s)) []) h)

-- a step that shows a row has one, and goes on past its bytes
has_next : (b c : Bool) (here : Step) {step : Step} → cond b (Ok (Some here)) (cond c (Err NotACapture) (Ok None)) ≡ Ok (Some step) → (b ≡ true) × (step ≡ here)
has_next true c here e = (refl, cc)
has_next false true here e = cc
has_next false false here e = cc

-- a step that shows none has none
has_end : (b c : Bool) (here : Step) → cond b (Ok (Some here)) (cond c (Err NotACapture) (Ok None)) ≡ Ok None → b ≡ false
has_end true c here e = cc
has_end false c here e = refl

has_not : (b c : Bool) (here : Step) {reason : Refusal} → cond b (Ok (Some here)) (cond c (Err NotACapture) (Ok None)) ≡ Err reason → b ≡ false
has_not true c here e = cc
has_not false c here e = refl

module _ (s : List ℕ) (row place : ℕ) {t : Shows} (is : t ≡ step_at s row place) where
  pub next_has : {step : Step} → t ≡ Ok (Some step) → (has_row s row place ≡ true) × (step.place ≡ place + length_in s row)
  unfolding step_at
  next_has e =
      let h = has_next (has_row s row place) (seen_bad s row place) _ (sym is ∙ e) in
      (h.0, ap (λ (step : Step). step.place) h.1)

  -- the next place is past the place, and inside the bytes
  pub within : {step : Step} → t ≡ Ok (Some step) → (place ≤ step.place) × (step.place ≤ length s)
  within e = let h = next_has e in (omega arith, omega (arith, (shown s row place h.0).within))

  module _ (first : ℕ × ℕ) where
    -- the part from the place to the next place is the body, and starts at the place
    pub body-shown : {step : Step} → t ≡ Ok (Some step) → (take (step.place - place) (drop place s) ≡ body_at s row place) × (further place first ≡ body_place s row place first)
    unfolding body_place
    body-shown {step} e =
        let h = next_has e in
        let n : step.place - place ≡ length_in s row = omega arith in
        (ap (λ (k : ℕ). take k (drop place s)) n ∙ sym (body-next s row place h.0), sym (ap (λ (b : Bool). further (cond b place 0) first) h.0))

    none-shown : has_row s row place ≡ false → ([] ≡ body_at s row place) × (first ≡ body_place s row place first)
    unfolding body_place
    none-shown h = (body-none s row place h, ap (λ (k : ℕ). (first.0, k)) (sym (zero-add first.1)) ∙ sym (ap (λ (b : Bool). further (cond b place 0) first) h))

    pub body_end : t ≡ Ok None → ([] ≡ body_at s row place) × (first ≡ body_place s row place first)
    unfolding step_at
    body_end e = none-shown (has_end (has_row s row place) (seen_bad s row place) _ (sym is ∙ e))

    pub body-not : {reason : Refusal} → t ≡ Err reason → ([] ≡ body_at s row place) × (first ≡ body_place s row place first)
    unfolding step_at
    body-not e = none-shown (has_not (has_row s row place) (seen_bad s row place) _ (sym is ∙ e))
