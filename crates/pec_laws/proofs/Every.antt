-- A test that antt computes at every number below a bound, and the law that carries it to each.
-- Assumes nothing.
use mathlib.Core.Path.{◌≡◌, subst}
use mathlib.Core.Bool.{Bool, true, false, ◌&&◌, ◌||◌, not}
use Prim.Native.Nat.{ℕ, zero, suc, ◌<◌}
use native.Mathlib.Nat.{le_of_suc-le-suc, not-suc-le-zero}
use lib.Dec.{T, eqb, eqb→eq, eqb_refl}

pub and_left : (a b : Bool) → T (a && b) → T a
and_left true b t = tt
and_left false b t = t

pub and_right : (a b : Bool) → T (a && b) → T b
and_right true b t = t
and_right false b t = absurd t

-- a test of the form `not a || b` says b where a holds
pub or_at : (a b : Bool) → T (not a || b) → T a → T b
or_at true b t h = t
or_at false b t h = absurd h

pub eq→eqb : (a b : ℕ) → a ≡ b → T (eqb a b)
eq→eqb a b e = subst (λ (x : ℕ). T (eqb a x)) e (eqb_refl a)

-- f holds at each number below n
abbrev pub every : (ℕ → Bool) → ℕ → Bool
every f zero = true
every f (suc n) = f zero && every (λ k. f (suc k)) n

pub each : (f : ℕ → Bool) (n : ℕ) → T (every f n) → (k : ℕ) → k < n → T (f k)
each f zero t k h = absurd (not-suc-le-zero h)
each f (suc n) t zero h = and_left (f zero) (every (λ k. f (suc k)) n) t
each f (suc n) t (suc k) h =
    each (λ k. f (suc k)) n (and_right (f zero) (every (λ k. f (suc k)) n) t) k (le_of_suc-le-suc h)

-- two functions that agree at every number below n agree at each
pub same_each : (f g : ℕ → ℕ) (n : ℕ) → T (every (λ x. eqb (f x) (g x)) n) → (k : ℕ) → k < n → f k ≡ g k
same_each f g n t k h = eqb→eq (f k) (g k) (each (λ x. eqb (f x) (g x)) n t k h)
