-- The state is what the milliseconds say: at set-up, and after each sample.
-- Assumes nothing.
use Prim.Native.Nat.{ℕ, suc, ◌+◌, ◌-◌, ◌*◌, ◌/◌, ◌%◌, ◌<◌, ◌≤◌, min}
use mathlib.Core.List.{List, ◌∷◌, ◌++◌, map, reverse}
use mathlib.Core.Path.{◌≡◌, refl, ap, ◌∙◌, sym}
use native.Mathlib.Omega.{arith}
use lib.IntN.{ℤ}
use lib.ListN.{length, take, drop, replicate, length-append, length-drop, length-replicate}
use lib.Seq.{drop-append-le}
use mir.Syntax.{w16}
use mir.Val.{SFits, of_z}
use Rattle.recent.specs.declared.Recent.{Recent}
use Rattle.seconds.specs.Seconds.{flowed_of, recent_after}
use Rattle.words.proofs.Integers.{split}
use Rattle.seconds.proofs.After.{same, early, late}
use Rattle.recent_laws.specs.Kept.{total_word, recent_of}
use Rattle.recent_laws.specs.Minute.{cut, seconds, total_of}
use Rattle.recent_laws.specs.Promises.{Currents, NoneAtFirst, OneMore}
use Rattle.recent_laws.proofs.Currents.{currents_drop}
use Rattle.recent_laws.proofs.Cut.{cut_length, cut_front, cut-late, drop-late}
use Rattle.recent_laws.proofs.Lists.{newest, first}
use Rattle.recent_laws.proofs.Totals.{flows, flows_first}

pub none_at_first : NoneAtFirst
unfolding recent_of seconds cut total_of
none_at_first = refl

-- ---- what is kept, by the number of complete seconds

-- the totals kept of so many seconds
abbrev totals_as : List ℤ → ℕ → List ℕ
totals_as l n = take 60 (reverse (map total_word (cut 1000 n l)) ++ replicate 60 0)

abbrev recent_as : List ℤ → ℕ → ℕ → Recent
recent_as l n b = record { totals = totals_as l n; count = min 60 n; begun = b; total = total_word (drop (1000 * n) l) }

-- n seconds of 1,000 and b more
kept_as : (l : List ℤ) (n b : ℕ) → length l ≡ 1000 * n + b → b < 1000 → recent_of l ≡ recent_as l n b
unfolding recent_of seconds
kept_as l n b h lt =
    let d : length l / 1000 ≡ n = omega arith in
    let s : length (cut 1000 (length l / 1000) l) ≡ n = cut_length 1000 (length l / 1000) l ∙ d in
    let m : length (drop (1000 * n) l) ≡ b = length-drop (1000 * n) l ∙ omega arith in
    same (ap (totals_as l) d) (ap (min 60) s) (ap (λ k. length (drop (1000 * k) l)) s ∙ m) (ap (λ k. total_word (drop (1000 * k) l)) s)

-- ---- one more sample

module _ (l : List ℤ) (n b : ℕ) (c : ℤ) (e : ℕ) (h : length l ≡ 1000 * n + b) (lt : b < 1000) (hl : Currents l) (hc : SFits w16 c) where
  rest-length : length (drop (1000 * n) l) ≡ b
  rest-length = length-drop (1000 * n) l ∙ omega arith

  rest-flows : (m : ℕ)
      → flowed_of (total_word (drop (1000 * n) l)) (of_z w16 c) m ≡ total_word (drop (1000 * n) l ++ replicate m c)
  rest-flows m = flows (drop (1000 * n) l) c m (currents_drop (1000 * n) l hl) hc (omega (arith, rest-length))

  -- the begun second goes on
  goes_on : e < 1000 - b → recent_after (recent_as l n b) (of_z w16 c) e ≡ recent_as (l ++ replicate e c) n (b + e)
  goes_on t =
      let x = replicate e c in
      sym (early (recent_as l n b) (of_z w16 c) e _ t refl)
      ∙ same (ap (λ s. take 60 (reverse (map total_word s) ++ replicate 60 0)) (sym (cut_front 1000 n l x (omega arith)))) refl refl
      (rest-flows e ∙ ap total_word (sym (drop-append-le (1000 * n) l x (omega arith))))

  module _ (k m : ℕ) (he : e ≡ 1000 - b + (1000 * k + m)) where
    totals-late :
        take 60
        (replicate k (flowed_of 0 (of_z w16 c) 1000)
        ++ (flowed_of (total_word (drop (1000 * n) l)) (of_z w16 c) (1000 - b) ∷ totals_as l n))
        ≡ totals_as (l ++ replicate e c) (n + suc k)
    totals-late =
        let g = drop (1000 * n) l in
        let s = replicate 1000 c in
        let f = g ++ replicate (1000 - length g) c in
        let r = reverse (map total_word (cut 1000 n l)) in
        let z : List ℕ = replicate 60 0 in
        let left : 1000 - b ≡ 1000 - length g = omega (arith, rest-length) in
        let full : flowed_of (total_word g) (of_z w16 c) (1000 - b) ≡ total_word f =
        rest-flows (1000 - b) ∙ ap (λ j. total_word (g ++ replicate j c)) left in
        ap (λ x. take 60 (replicate k x ++ (flowed_of (total_word g) (of_z w16 c) (1000 - b) ∷ take 60 (r ++ z)))) (flows_first c 1000 hc)
        ∙ ap (λ y. take 60 (replicate k (total_word s) ++ (y ∷ take 60 (r ++ z)))) full
        ∙ first 60 (replicate k (total_word s)) (total_word f) r z
        ∙ ap (λ q. take 60 (q ++ z))
        (sym (newest total_word (cut 1000 n l) f s k)
        ∙ ap (λ x. reverse (map total_word x))
        (sym (cut-late 1000 n k m c l (omega arith) (omega (arith, rest-length)) e (omega (arith, rest-length)))))

  -- it is complete, and more with it
  comes-round : 1000 - b ≤ e
      → recent_after (recent_as l n b) (of_z w16 c) e
      ≡ recent_as (l ++ replicate e c) (n + suc ((e - (1000 - b)) / 1000)) ((e - (1000 - b)) % 1000)
  comes-round t =
      let k = (e - (1000 - b)) / 1000 in
      let m = (e - (1000 - b)) % 1000 in
      let he : e ≡ 1000 - b + (1000 * k + m) = omega arith in
      sym (late (recent_as l n b) (of_z w16 c) e _ _ _ _ _ t refl refl refl refl refl)
      ∙ same (totals-late k m he) (omega arith) refl
      (flows_first c m hc
      ∙ ap total_word (sym (drop-late 1000 n k m c l (omega arith) (omega (arith, rest-length)) e (omega (arith, rest-length)))))

pub one_more : OneMore
one_more l c e hl hc =
    let n = length l / 1000 in
    let b = length l % 1000 in
    let h : length l ≡ 1000 * n + b = omega arith in
    let lt : b < 1000 = omega arith in
    let size : length (l ++ replicate e c) ≡ length l + e = length-append l (replicate e c) ∙ ap (λ k. length l + k) (length-replicate e c) in
    ap (λ s. recent_after s (of_z w16 c) e) (kept_as l n b h lt)
    ∙ split e (1000 - b)
    (λ t. goes_on l n b c e h lt hl hc t ∙ sym (kept_as (l ++ replicate e c) n (b + e) (omega arith) (omega arith)))
    (λ t.
    comes-round l n b c e h lt hl hc t
    ∙ sym (kept_as (l ++ replicate e c) (n + suc ((e - (1000 - b)) / 1000)) ((e - (1000 - b)) % 1000) (omega arith) (omega arith)))
