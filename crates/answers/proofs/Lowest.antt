-- `lowest` is the lowest, and in a rising list the first.
-- Assumes nothing.
use Prim.Native.Nat.{ℕ, zero, suc, min, ◌<◌, ◌≤◌}
use mathlib.Core.Bool.{Bool, true, false, cond, and-eq-true_iff}
use mathlib.Core.List.{List, [], ◌∷◌}
use mathlib.Core.Logic.{◌⊎◌, inl, inr}
use mathlib.Core.Path.{◌≡◌, refl, sym, ap, subst}
use borrow.Author.Tests.{ltb-true, leb-true, leb-false}
use native.Mathlib.Omega.{arith}
use lib.Dec.{ltb, leb, eqb-suc-zero}
use Rattle.answers.specs.Lowest.{Condition, lower, lowest, Given, IsLowest, all_above, LowestOfAll, rising, first_holding, FirstIsLowest}

-- beside another the lower of two is their minimum
beside : (m k : ℕ) → lower m (suc k) ≡ min m (suc k)
beside m k = ap (λ b. cond b m (min m (suc k))) (eqb-suc-zero k)

-- what numbers above n give is 0 or above n, and so with one more
chosen : (n m k : ℕ) (b : Bool) → n < m → (k ≡ 0) ⊎ (n < k) → (cond b (lower m k) k ≡ 0) ⊎ (n < cond b (lower m k) k)
chosen n m k false h p = p
chosen n m zero true h p = inr h
chosen n m (suc k) true h (inl e) = absurd (omega arith)
chosen n m (suc k) true h (inr q) = inr (let e = beside m k in omega arith)

above_lowest : (n : ℕ) (cs : List Condition) → all_above n cs ≡ true → (lowest cs ≡ 0) ⊎ (n < lowest cs)
unfolding all_above lowest
above_lowest n [] h = inl refl
above_lowest n (c ∷ cs) h =
    let p = (and-eq-true_iff (ltb n c.number) (all_above n cs)).0 h in
    chosen n c.number (lowest cs) c.holds (ltb-true n c.number p.0) (above_lowest n cs p.1)

-- a number below all others' is the lower
keeps : (n k : ℕ) → (k ≡ 0) ⊎ (n < k) → lower n k ≡ n
keeps n zero p = refl
keeps n (suc k) (inl e) = absurd (omega arith)
keeps n (suc k) (inr q) = let e = beside n k in omega arith

first : (c : Condition) (b : Bool) (low rest : ℕ) → lower c.number low ≡ c.number → low ≡ rest → cond b (lower c.number low) low ≡ cond b c.number rest
first c true low rest p q = p
first c false low rest p q = q

pub first_is_lowest : FirstIsLowest
unfolding rising lowest first_holding
first_is_lowest [] h = refl
first_is_lowest (c ∷ cs) h =
    let p = (and-eq-true_iff (all_above c.number cs) (rising cs)).0 h in
    first c c.holds (lowest cs) (first_holding cs) (keeps c.number (lowest cs) (above_lowest c.number cs p.0)) (first_is_lowest cs p.1)

-- the lower of two is one of them
one_of : (m k : ℕ) → (lower m k ≡ m) ⊎ ((lower m k ≡ k) × (0 < k))
one_of m zero = inl refl
one_of m (suc k) = tested (leb m (suc k)) refl
  where
    tested : (b : Bool) → leb m (suc k) ≡ b → (lower m (suc k) ≡ m) ⊎ ((lower m (suc k) ≡ suc k) × (0 < suc k))
    tested true h = inl (let e = beside m k in let i = leb-true m (suc k) h in omega arith)
    tested false h = inr (let e = beside m k in let i = leb-false m (suc k) h in omega arith)

above_none : (m k : ℕ) → 0 < m → 0 < lower m k
above_none m zero h = h
above_none m (suc k) h = let e = beside m k in omega arith

at_most_it : (m k : ℕ) → lower m k ≤ m
at_most_it m zero = omega arith
at_most_it m (suc k) = let e = beside m k in omega arith

at_most_others : (m k : ℕ) → 0 < k → lower m k ≤ k
at_most_others m zero h = omega arith
at_most_others m (suc k) h = let e = beside m k in omega arith

-- one condition more
with_one : (c : Condition) (b : Bool) (cs : List Condition) → c.holds ≡ b → 0 < c.number → IsLowest cs (lowest cs) → IsLowest (c ∷ cs) (cond b (lower c.number (lowest cs)) (lowest cs))
with_one c false cs e h l = record { given = λ q. inr (l.given q); least = least }
  where
    least : (n : ℕ) → Given n (c ∷ cs) → (0 < lowest cs) × (lowest cs ≤ n)
    least n (inl p) = absurd (let z : ◌≡◌ {A = ℕ} 0 1 = cc in omega arith)
    least n (inr g) = l.least n g
with_one c true cs e h l = record { given = λ q. given (one_of c.number (lowest cs)); least = least }
  where
    given : (lower c.number (lowest cs) ≡ c.number) ⊎ ((lower c.number (lowest cs) ≡ lowest cs) × (0 < lowest cs)) → Given (lower c.number (lowest cs)) (c ∷ cs)
    given (inl p) = inl (sym p, e)
    given (inr p) = inr (subst (λ n. Given n cs) (sym p.0) (l.given p.1))

    least : (n : ℕ) → Given n (c ∷ cs) → (0 < lower c.number (lowest cs)) × (lower c.number (lowest cs) ≤ n)
    least n (inl p) = (above_none c.number (lowest cs) h, let q = at_most_it c.number (lowest cs) in omega (q, p.0, arith))
    least n (inr g) =
        let i = l.least n g in
        let q = at_most_others c.number (lowest cs) i.0 in
        (above_none c.number (lowest cs) h, omega (q, i.1, arith))

pub lowest_of_all : LowestOfAll
unfolding all_above lowest
lowest_of_all [] h = record { given = λ q. absurd (omega (q, arith)); least = λ n g. absurd g }
lowest_of_all (c ∷ cs) h =
    let p = (and-eq-true_iff (ltb 0 c.number) (all_above 0 cs)).0 h in
    with_one c c.holds cs refl (ltb-true 0 c.number p.0) (lowest_of_all cs p.1)
