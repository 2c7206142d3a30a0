-- Totals and bad rows where a table is split or has one row more.
-- Assumes nothing.
use mathlib.Core.Path.{◌≡◌, refl, sym, ap, ◌∙◌}
use mathlib.Core.Bool.{Bool, true, false, cond, ◌||◌, or_assoc}
use mathlib.Core.List.{List, [], ◌∷◌, ◌++◌}
use Prim.Native.Nat.{ℕ, zero, ◌+◌, ◌≤◌, ◌<◌}
use native.Mathlib.Omega.{arith}
use lib.Dec.{ltb, eqb}
use lib.ListN.{length, length-append}
use borrow.Author.Tests.{eqb-false}
use Rattle.shelf.specs.declared.Row.{Row}
use Rattle.shelf.specs.Shelf.{any_bad, total, low_count}
use Rattle.shelf_row.specs.Rows.{is_bad, is_low}

pub or_left : (a b : Bool) → a || b ≡ false → a ≡ false
or_left false b h = refl
or_left true b h = h

pub or_right : (a b : Bool) → a || b ≡ false → b ≡ false
or_right false b h = h
or_right true b h = let z : ◌≡◌ {A = Bool} true false = h in (cc)

-- ---- where a table is split

pub bad_append : (xs ys : List Row) → any_bad (xs ++ ys) ≡ any_bad xs || any_bad ys
unfolding any_bad
bad_append [] ys = refl
bad_append (x ∷ xs) ys =
    let b : Bool = is_bad x.remaining x.full x.design in
    ap (λ (c : Bool). b || c) (bad_append xs ys) ∙ sym (or_assoc b (any_bad xs) (any_bad ys))

pub total_append : (of : Row → ℕ) (xs ys : List Row) → total of (xs ++ ys) ≡ total of xs + total of ys
unfolding total
total_append of [] ys = omega arith
total_append of (x ∷ xs) ys = omega (arith, total_append of xs ys)

-- ---- one row more

pub length_one : (xs : List Row) (x : Row) → length (xs ++ (x ∷ [])) ≡ length xs + 1
length_one xs x = length-append xs (x ∷ [])

pub total_one : (of : Row → ℕ) (xs : List Row) (x : Row) → total of (xs ++ (x ∷ [])) ≡ total of xs + of x
unfolding total
total_one of xs x = omega (arith, total_append of xs (x ∷ []))

-- ---- what a row can be

-- a row that isn't bad has a full above 0
pub good_full : (r f d : ℕ) → is_bad r f d ≡ false → zero < f
good_full r f d h = pos f (eqb-false f 0 (or_left (eqb f 0) (eqb d 0) (or_left (eqb f 0 || eqb d 0) (ltb f r) h)))
  where
    pos : (n : ℕ) → (n ≡ 0 → ⊥) → zero < n
    pos n h = omega arith

-- no more rows are below one fifth than there are
pub low_most : (xs : List Row) → low_count xs ≤ length xs
unfolding total
low_most [] = omega arith
low_most (x ∷ xs) = omega (arith, low_most xs, one-or-none (is_low x.remaining x.full))
  where
    one-or-none : (b : Bool) → cond b 1 0 ≤ 1
    one-or-none true = omega arith
    one-or-none false = omega arith
