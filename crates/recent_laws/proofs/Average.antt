-- Register 0B of what is kept is the rule's average of all milliseconds.
-- Assumes nothing.
use Prim.Native.Nat.{ℕ, zero, suc, ◌*◌, ◌≤◌}
use mathlib.Core.Bool.{cond}
use mathlib.Core.List.{List, [], ◌∷◌, ◌++◌, map, reverse, map-append, reverse-cons}
use mathlib.Core.Path.{◌≡◌, refl, ap, ◌∙◌, sym, subst⁻¹}
use native.Mathlib.Omega.{arith}
use borrow.Author.Tests.{ne_eqb}
use lib.Dec.{eqb}
use lib.IntN.{ℤ, pos, ◌+ℤ◌, +ℤ_comm, +ℤ_idr}
use lib.ListN.{length, take, drop, get_or, replicate, length-append, length-take, length-drop, length-replicate}
use lib.Seq.{take-suc, length-take-le}
use lib.Signed.{quot_z}
use mir.Syntax.{w16, w32}
use mir.Val.{SFits, to_z, of_z}
use Rattle.recent.proofs.Bound.{mean_fits}
use Rattle.recent.specs.Recent.{sum_of, average_of}
use Rattle.recent_laws.specs.Kept.{total_word, recent_of}
use Rattle.recent_laws.specs.Minute.{cut, seconds, last_sixty, in_one, total_of, mean_of, average_of_all}
use Rattle.recent_laws.specs.Promises.{Currents, KeptAverage, AverageFits}
use Rattle.recent_laws.proofs.Currents.{currents_take, currents_drop}
use Rattle.recent_laws.proofs.Cut.{in_one_cut}
use Rattle.recent_laws.proofs.Last.{recently, sixty, recently_enough, recently_currents, last_cut, last_count, last_totals}
use Rattle.recent_laws.proofs.Totals.{total_append, total_can, kept_total}

-- ---- sums of kept totals

single : (z : ℤ) → total_of (z ∷ []) ≡ z
unfolding total_of
single z = +ℤ_idr z

sum_is : (l : List ℕ) (n : ℕ) → n ≤ length l → sum_of l n ≡ total_of (map (to_z w32) (take n l))
unfolding sum_of total_of
sum_is l zero h = refl
sum_is l (suc n) h =
    let x = get_or l n 0 in
    let a = map (to_z w32) (take n l) in
    ap (λ (z : ℤ). z +ℤ to_z w32 x) (sum_is l n (omega arith))
    ∙ ap (λ (z : ℤ). total_of a +ℤ z) (sym (single (to_z w32 x)))
    ∙ sym (total_append a (to_z w32 x ∷ []))
    ∙ ap total_of (sym (map-append (to_z w32) (take n l) (x ∷ [])) ∙ ap (map (to_z w32)) (sym (take-suc l n 0 (omega arith))))

reverse_sum : (l : List ℕ) → total_of (map (to_z w32) (reverse l)) ≡ total_of (map (to_z w32) l)
unfolding total_of
reverse_sum [] = refl
reverse_sum (x ∷ l) =
    let r = map (to_z w32) (reverse l) in
    ap (λ s. total_of (map (to_z w32) s)) (reverse-cons x l)
    ∙ ap total_of (map-append (to_z w32) (reverse l) (x ∷ []))
    ∙ total_append r (to_z w32 x ∷ [])
    ∙ ap (λ (z : ℤ). total_of r +ℤ z) (single (to_z w32 x))
    ∙ +ℤ_comm (total_of r) (to_z w32 x)
    ∙ ap (λ (z : ℤ). to_z w32 x +ℤ z) (reverse_sum l)

-- of seconds: the total of their milliseconds
cut_sum : (j : ℕ) (l : List ℤ) → Currents l → 1000 * j ≤ length l
    → total_of (map (to_z w32) (map total_word (cut 1000 j l))) ≡ total_of (in_one (cut 1000 j l))
unfolding cut in_one total_of
cut_sum zero l h n = refl
cut_sum (suc j) l h n =
    let s = take 1000 l in
    let rest = cut 1000 j (drop 1000 l) in
    let one : to_z w32 (total_word s) ≡ total_of s = kept_total s (currents_take 1000 l h) (omega (arith, length-take-le 1000 l (omega arith))) in
    ap (λ (z : ℤ). z +ℤ total_of (map (to_z w32) (map total_word rest))) one
    ∙ ap (λ (z : ℤ). total_of s +ℤ z) (cut_sum j (drop 1000 l) (currents_drop 1000 l h) (omega (arith, length-drop 1000 l)))
    ∙ sym (total_append s (in_one rest))

-- ---- the average

-- sixty totals are kept
sixty_kept : (l : List ℤ) → (recent_of l).count ≤ length (recent_of l).totals
unfolding recent_of
sixty_kept l =
    let a = reverse (map total_word (seconds l)) in
    let z : List ℕ = replicate 60 0 in
    let e : length z ≡ 60 = length-replicate {A = ℕ} 60 0 in
    omega (arith, length-take 60 (a ++ z), length-append a z)

sum_kept : (l : List ℤ) → Currents l → sum_of (recent_of l).totals (recent_of l).count ≡ total_of (in_one (cut 1000 (sixty l) (recently l)))
sum_kept l h =
    let c = cut 1000 (sixty l) (recently l) in
    sum_is (recent_of l).totals (recent_of l).count (sixty_kept l)
    ∙ ap (λ s. total_of (map (to_z w32) s)) (last_totals l)
    ∙ reverse_sum (map total_word c)
    ∙ cut_sum (sixty l) (recently l) (recently_currents l h) (recently_enough l)

mean_as : (k : List ℤ) (j : ℕ) (latest : ℤ) → length k ≡ 1000 * j
    → cond (eqb j 0) (of_z w16 latest) (of_z w16 (quot_z (total_of k) (pos (1000 * j)))) ≡ of_z w16 (mean_of k latest)
unfolding mean_of
mean_as [] zero latest h = refl
mean_as [] (suc j) latest h = absurd (omega arith)
mean_as (c ∷ k) zero latest h = absurd (omega arith)
mean_as (c ∷ k) (suc j) latest h =
    ap (λ b. cond b (of_z w16 latest) (of_z w16 (quot_z (total_of (c ∷ k)) (pos (1000 * suc j))))) (ne_eqb (suc j) 0 (λ q. omega (arith, q)))
    ∙ ap (λ n. of_z w16 (quot_z (total_of (c ∷ k)) (pos n))) (sym h)

pub kept_average : KeptAverage
unfolding average_of average_of_all
kept_average l latest h =
    let k = in_one (cut 1000 (sixty l) (recently l)) in
    let size : length k ≡ 1000 * sixty l =
    ap length (in_one_cut 1000 (sixty l) (recently l)) ∙ length-take-le (1000 * sixty l) (recently l) (recently_enough l) in
    ap (λ (z : ℤ). cond (eqb (recent_of l).count 0) (of_z w16 latest) (of_z w16 (quot_z z (pos (1000 * (recent_of l).count))))) (sum_kept l h)
    ∙ ap (λ j. cond (eqb j 0) (of_z w16 latest) (of_z w16 (quot_z (total_of k) (pos (1000 * j))))) (last_count l)
    ∙ mean_as k (sixty l) latest size
    ∙ ap (λ s. of_z w16 (mean_of (in_one s) latest)) (sym (last_cut l))

-- ---- it fits

by_mean : (k : List ℤ) (latest : ℤ) → Currents k → SFits w16 latest → SFits w16 (mean_of k latest)
unfolding mean_of
by_mean [] latest h f = f
by_mean (c ∷ k) latest h f = mean_fits (length (c ∷ k)) (total_of (c ∷ k)) (total_can (c ∷ k) h)

pub average_fits : AverageFits
unfolding average_of_all
average_fits l latest h f =
    by_mean (in_one (last_sixty (seconds l))) latest
    (subst⁻¹ Currents (ap in_one (last_cut l) ∙ in_one_cut 1000 (sixty l) (recently l)) (currents_take (1000 * sixty l) (recently l) (recently_currents l h)))
    f
