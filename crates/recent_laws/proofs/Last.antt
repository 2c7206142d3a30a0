-- The totals kept are those of the last 60 complete seconds, which are pieces of the last milliseconds.
-- Assumes nothing.
use Prim.Native.Nat.{ℕ, ◌+◌, ◌-◌, ◌*◌, ◌/◌, ◌≤◌, min}
use mathlib.Core.List.{List, ◌++◌, map, reverse}
use mathlib.Core.Path.{◌≡◌, ap, ◌∙◌, sym}
use native.Mathlib.Omega.{arith}
use lib.IntN.{ℤ}
use lib.ListN.{length, take, drop, replicate, length-drop, length-map}
use Rattle.recent_laws.specs.Kept.{total_word, recent_of}
use Rattle.recent_laws.specs.Minute.{cut, seconds, last_sixty}
use Rattle.recent_laws.specs.Promises.{Currents}
use Rattle.recent_laws.proofs.Currents.{currents_drop}
use Rattle.recent_laws.proofs.Cut.{cut_length, cut_last}
use Rattle.recent_laws.proofs.Lists.{map-drop, last-first}

-- the milliseconds since the last 60 complete seconds began
abbrev pub recently : List ℤ → List ℤ
recently l = drop (1000 * (length l / 1000 - 60)) l

-- how many of these seconds there are
abbrev pub sixty : List ℤ → ℕ
sixty l = min 60 (length l / 1000)

pub recently_enough : (l : List ℤ) → 1000 * sixty l ≤ length (recently l)
recently_enough l = omega (arith, length-drop (1000 * (length l / 1000 - 60)) l)

pub recently_currents : (l : List ℤ) → Currents l → Currents (recently l)
recently_currents l h = currents_drop (1000 * (length l / 1000 - 60)) l h

pub last_cut : (l : List ℤ) → last_sixty (seconds l) ≡ cut 1000 (sixty l) (recently l)
unfolding seconds
last_cut l =
    let n = length l / 1000 in
    let e : n ≡ n - 60 + min 60 n = omega arith in
    ap (λ k. drop (k - 60) (cut 1000 n l)) (cut_length 1000 n l) ∙ ap (λ k. drop (n - 60) (cut 1000 k l)) e ∙ cut_last 1000 (n - 60) (min 60 n) l

pub last_count : (l : List ℤ) → (recent_of l).count ≡ sixty l
unfolding recent_of seconds
last_count l = ap (min 60) (cut_length 1000 (length l / 1000) l)

pub last_totals : (l : List ℤ) → take (recent_of l).count (recent_of l).totals ≡ reverse (map total_word (cut 1000 (sixty l) (recently l)))
unfolding recent_of
last_totals l =
    let s = seconds l in
    let m = map total_word s in
    let e : length m ≡ length s = length-map s total_word in
    ap (λ k. take (min 60 k) (take 60 (reverse m ++ replicate 60 0))) (sym e)
    ∙ last-first 60 m (replicate 60 0)
    ∙ ap (λ k. reverse (drop (k - 60) m)) e
    ∙ ap reverse (map-drop total_word (length s - 60) s ∙ ap (map total_word) (last_cut l))
