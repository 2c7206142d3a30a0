-- What a sample makes of the recent minute, by its test: a sound one stays sound, and one that fits its types still fits them.
-- Assumes nothing.
use Rattle.std.proofs.Common.{◌≡◌, ℕ, zero, suc, ◌+◌, ◌-◌, ◌/◌, ◌%◌, ◌^◌, ◌<◌, ◌≤◌, min, true, List, [], ◌∷◌, length, take, replicate, refl, ap, ◌∙◌, subst, arith, length-append, length-take, take-take, le-ltb, lt-ltb}
use mathlib.Core.Bool.{and-eq-true_iff}
use Rattle.recent.specs.Fits.{Below, RecentFit}
use Rattle.seconds.specs.Promises.{AfterFits, AfterSound}
use Rattle.recent.specs.Recent.{total_sound, totals_sound, RecentFacts}
use Rattle.seconds.specs.Seconds.{flowed_of, lacking, beyond, recent_after}
use Rattle.recent.specs.declared.Recent.{Recent}
use Rattle.seconds.proofs.Flow.{flowed_sound, flowed_small}
use Rattle.seconds.proofs.Places.{laid}
use Rattle.recent.proofs.Soundness.{recent_facts, recent-sound}
use Rattle.words.proofs.Integers.{split}

-- four fields that are the same
pub same : {t t' : List ℕ} {c c' b b' p p' : ℕ} → t ≡ t' → c ≡ c' → b ≡ b' → p ≡ p'
    → ◌≡◌ {A = Recent} (record { totals = t; count = c; begun = b; total = p }) (record { totals = t'; count = c'; begun = b'; total = p' })
same et ec eb ep = cc

module _ (r : Recent) (current elapsed : ℕ) where
  -- the begun second goes on
  pub early : (total : ℕ) → elapsed < lacking r → total ≡ flowed_of r.total current elapsed
      → ◌≡◌ {A = Recent} (record { totals = r.totals; count = r.count; begun = r.begun + elapsed; total = total })
      (recent_after r current elapsed)
  unfolding recent_after
  early total h et = simp (lt-ltb elapsed (lacking r) h) (same refl refl refl et)

  -- or it is complete
  pub late : (totals : List ℕ) (count full whole total : ℕ) → lacking r ≤ elapsed
      → full ≡ flowed_of r.total current (lacking r)
      → whole ≡ flowed_of 0 current 1000
      → totals ≡ take 60 (laid (beyond r elapsed / 1000) whole full r.totals)
      → count ≡ min 60 (r.count + 1 + beyond r elapsed / 1000)
      → total ≡ flowed_of 0 current (beyond r elapsed % 1000)
      → ◌≡◌ {A = Recent} (record { totals = totals; count = count; begun = beyond r elapsed % 1000; total = total })
      (recent_after r current elapsed)
  unfolding recent_after
  late totals count full whole total h ef ew et ec ep =
      simp (le-ltb elapsed (lacking r) h)
      (same (et ∙ ap (λ x. take 60 (laid (beyond r elapsed / 1000) x full r.totals)) ew
      ∙ ap (λ x. take 60 (laid (beyond r elapsed / 1000) (flowed_of 0 current 1000) x r.totals)) ef) ec refl ep)

-- ---- sound

-- the first few of sound totals
fewer_sound : (m n : ℕ) (l : List ℕ) → m ≤ n → totals_sound (take n l) ≡ true → totals_sound (take m l) ≡ true
unfolding totals_sound
fewer_sound zero n l h s = refl
fewer_sound (suc m) zero l h s = absurd (omega arith)
fewer_sound (suc m) (suc n) [] h s = refl
fewer_sound (suc m) (suc n) (t ∷ l) h s =
    let a = (and-eq-true_iff (total_sound 1000 t) (totals_sound (take n l))).0 s in
    (and-eq-true_iff (total_sound 1000 t) (totals_sound (take m l))).1 (a.0, fewer_sound m n l (omega arith) a.1)

-- of whole seconds, the one just full, and n old ones, the first m
laid_sound : (m k n whole full : ℕ) (old : List ℕ) → m ≤ k + suc n → total_sound 1000 whole ≡ true → total_sound 1000 full ≡ true
    → totals_sound (take n old) ≡ true → totals_sound (take m (laid k whole full old)) ≡ true
unfolding totals_sound
laid_sound zero k n w f old h sw sf so = refl
laid_sound (suc m) zero n w f old h sw sf so =
    (and-eq-true_iff (total_sound 1000 f) (totals_sound (take m old))).1 (sf, fewer_sound m n old (omega arith) so)
laid_sound (suc m) (suc k) n w f old h sw sf so =
    (and-eq-true_iff (total_sound 1000 w) (totals_sound (take m (laid k w f old)))).1 (sw, laid_sound m k n w f old (omega arith) sw sf so)

-- a current from nothing, and to a full second
new_sound : (current ms : ℕ) → ms ≤ 1000 → total_sound ms (flowed_of 0 current ms) ≡ true
new_sound c ms h =
    let z : 0 + ms ≡ ms = omega arith in
    subst (λ m. total_sound m (flowed_of 0 c ms) ≡ true) z (flowed_sound 0 0 c ms (omega arith) refl)

full_sound : (begun total current : ℕ) → begun < 1000 → total_sound begun total ≡ true
    → total_sound 1000 (flowed_of total current (1000 - begun)) ≡ true
full_sound b t c h s =
    let z : b + (1000 - b) ≡ 1000 = omega arith in
    subst (λ m. total_sound m (flowed_of t c (1000 - b)) ≡ true) z (flowed_sound b t c (1000 - b) (omega arith) s)

after_facts : (r : Recent) (current elapsed : ℕ) → RecentFacts r → RecentFacts (recent_after r current elapsed)
after_facts r c e f =
    split e (lacking r)
    (λ h.
    subst RecentFacts (early r c e (flowed_of r.total c e) h refl)
    (record {
      most = f.most;
      begun = omega arith;
      totals = f.totals;
      total = flowed_sound r.begun r.total c e (omega arith) f.total;
    }))
    (λ h.
    let k = beyond r e / 1000 in
    let new = laid k (flowed_of 0 c 1000) (flowed_of r.total c (lacking r)) r.totals in
    let m = min 60 (r.count + 1 + k) in
    subst RecentFacts (late r c e _ _ _ _ _ h refl refl refl refl refl)
    (record {
      most = omega arith;
      begun = omega arith;
      totals =
          ap totals_sound (take-take m 60 new (omega arith))
          ∙ laid_sound m k r.count (flowed_of 0 c 1000) (flowed_of r.total c (lacking r)) r.totals (omega arith)
          (new_sound c 1000 (omega arith)) (full_sound r.begun r.total c f.begun f.total) f.totals;
      total = new_sound c (beyond r e % 1000) (omega arith);
    }))

pub after_sound : AfterSound
after_sound r c e s = recent-sound (recent_after r c e) (after_facts r c e (recent_facts r s))

-- ---- fits

below_laid : (bound k whole full : ℕ) (old : List ℕ) → whole < bound → full < bound → Below bound old → Below bound (laid k whole full old)
below_laid b zero w f old hw hf ho = (hf, ho)
below_laid b (suc k) w f old hw hf ho = (hw, below_laid b k w f old hw hf ho)

below_take : (bound n : ℕ) (l : List ℕ) → Below bound l → Below bound (take n l)
below_take b zero l h = tt
below_take b (suc n) [] h = tt
below_take b (suc n) (x ∷ l) h = (h.0, below_take b n l h.1)

length_laid : (k whole full : ℕ) (old : List ℕ) → length old ≡ 60 → length (take 60 (laid k whole full old)) ≡ 60
length_laid k w f old h =
    length-take 60 (laid k w f old) ∙ omega (arith, length-append (replicate k w) (f ∷ old))

new_small : (current ms : ℕ) → ms ≤ 1000 → flowed_of 0 current ms < 2 ^ 32
new_small c ms h = flowed_small 0 0 c ms (omega arith) refl

pub after_fits : AfterFits
after_fits r c e s t =
    let f = recent_facts r s in
    split e (lacking r)
    (λ h.
    subst RecentFit (early r c e (flowed_of r.total c e) h refl)
    (record {
      sixty = t.sixty;
      totals = t.totals;
      count = t.count;
      begun = omega arith;
      total = flowed_small r.begun r.total c e (omega arith) f.total;
    }))
    (λ h.
    let k = beyond r e / 1000 in
    let whole = flowed_of 0 c 1000 in
    let full = flowed_of r.total c (lacking r) in
    subst RecentFit (late r c e _ _ _ _ _ h refl refl refl refl refl)
    (record {
      sixty = length_laid k whole full r.totals t.sixty;
      totals =
          below_take (2 ^ 32) 60 (laid k whole full r.totals)
          (below_laid (2 ^ 32) k whole full r.totals (new_small c 1000 (omega arith))
          (flowed_small r.begun r.total c (lacking r) (omega arith) f.total) t.totals);
      count = omega arith;
      begun = omega arith;
      total = new_small c (beyond r e % 1000) (omega arith);
    }))
