-- The orbit of the bit step: only 0 steps to 0, and from 7 the steps meet 128 after 126, and again each 127 later.
-- Assumes nothing.
use mathlib.Core.Path.{◌≡◌, refl, sym, ap, ◌∙◌}
use mathlib.Core.Bool.{Bool, true, ◌&&◌, ◌||◌, not}
use Prim.Native.Nat.{ℕ, zero, suc, ◌+◌, ◌*◌, ◌/◌, ◌%◌, ◌<◌}
use native.Mathlib.Nat.{le_of_suc-le-suc, not-suc-le-zero, zero-add, suc-add, suc-mul, mod-lt, div-add-mod'}
use lib.Dec.{T, eqb, eqb→eq, lit<}
use Rattle.pec.specs.Pec.{bit_step}
use Rattle.pec_laws.proofs.Every.{and_left, and_right, or_at, eq→eqb, each}

-- the bit step takes no byte but 0 to 0
pub bit_step_none : (s : ℕ) → s < 256 → bit_step s ≡ 0 → s ≡ 0
unfolding bit_step
bit_step_none s h e =
    eqb→eq s 0 (or_at (eqb (bit_step s) 0) (eqb s 0) (each (λ x. not (eqb (bit_step x) 0) || eqb x 0) 256 tt s h) (eq→eqb (bit_step s) 0 e))

-- k bit steps
abbrev pub run : ℕ → ℕ → ℕ
run zero s = s
run (suc k) s = run k (bit_step s)

-- g holds of k and what stands after k bit steps from s, for each k below n
abbrev orbit : (ℕ → ℕ → Bool) → ℕ → ℕ → Bool
orbit g zero s = true
orbit g (suc n) s = g zero s && orbit (λ k. g (suc k)) n (bit_step s)

orbit_at : (g : ℕ → ℕ → Bool) (n s : ℕ) → T (orbit g n s) → (k : ℕ) → k < n → T (g k (run k s))
orbit_at g zero s t k h = absurd (not-suc-le-zero h)
orbit_at g (suc n) s t zero h = and_left (g zero s) (orbit (λ k. g (suc k)) n (bit_step s)) t
orbit_at g (suc n) s t (suc k) h =
    orbit_at (λ k. g (suc k)) n (bit_step s) (and_right (g zero s) (orbit (λ k. g (suc k)) n (bit_step s)) t) k (le_of_suc-le-suc h)

meets_only : ℕ → ℕ → Bool
meets_only k s = not (eqb s 128) || eqb k 126

-- in the first round
first : (k : ℕ) → k < 127 → run k 7 ≡ 128 → k ≡ 126
unfolding meets_only bit_step
first k h e =
    eqb→eq k 126 (or_at (eqb (run k 7) 128) (eqb k 126) (orbit_at meets_only 127 7 tt k h) (eq→eqb (run k 7) 128 e))

run_add : (a b s : ℕ) → run (a + b) s ≡ run b (run a s)
run_add zero b s = ap (λ (n : ℕ). run n s) (zero-add b)
run_add (suc a) b s = ap (λ (n : ℕ). run n s) (suc-add a b) ∙ run_add a b (bit_step s)

once : run 127 7 ≡ 7
unfolding bit_step
once = refl

round : (q : ℕ) → run (q * 127) 7 ≡ 7
round zero = refl
round (suc q) = ap (λ (n : ℕ). run n 7) (suc-mul q 127) ∙ run_add (q * 127) 127 7 ∙ ap (run 127) (round q) ∙ once

-- in every round
pub meets : (m : ℕ) → run m 7 ≡ 128 → m % 127 ≡ 126
meets m e = first (m % 127) (mod-lt m {m = 127} (lit< tt)) back
  where
    back : run (m % 127) 7 ≡ 128
    back =
        ap (run (m % 127)) (sym (round (m / 127))) ∙ sym (run_add (m / 127 * 127) (m % 127) 7)
        ∙ ap (λ (n : ℕ). run n 7) (div-add-mod' m 127) ∙ e
