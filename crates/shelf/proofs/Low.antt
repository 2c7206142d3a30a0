-- The lowest row: it stands where the ratio is at most every row's and strictly below every earlier one's, and one row more keeps it or takes its place.
-- Assumes nothing.
use mathlib.Core.Path.{◌≡◌, refl, sym, ap, ◌∙◌, subst}
use mathlib.Core.Bool.{Bool, true, false, and-false}
use mathlib.Core.List.{List, [], ◌∷◌, ◌++◌, append_assoc}
use Prim.Native.Nat.{ℕ, zero, suc, ◌+◌, ◌*◌, ◌≤◌, ◌<◌}
use native.Mathlib.Omega.{arith}
use lib.Dec.{ltb}
use lib.ListN.{length}
use borrow.Author.Tests.{ltb-true, ltb-false, le-leb, lt-leb}
use Rattle.std.specs.Prelude.{Option, Some}
use Rattle.shelf.specs.declared.Row.{Row}
use Rattle.shelf_row.specs.declared.Lowest.{Lowest}
use Rattle.shelf.specs.Shelf.{any_bad, at_most, at_most_all, at_place, lowest_from, lowest_of}
use Rattle.shelf.specs.Ratios.{All, AtMost, Under}
use Rattle.shelf_row.specs.Rows.{is_bad}
use Rattle.shelf_row.specs.Step.{lowest_with}
use Rattle.shelf.proofs.Arith.{ratio_le, ratio_lt}
use Rattle.shelf.proofs.Lists.{or_left, or_right, good_full}

all_append : (P : Row → Type 0) (xs ys : List Row) → All P xs → All P ys → All P (xs ++ ys)
all_append P [] ys h k = k
all_append P (x ∷ xs) ys h k = (h.0, all_append P xs ys h.1 k)

pub all_mid : (P : Row → Type 0) (xs : List Row) (y : Row) (ys : List Row) → All P (xs ++ (y ∷ ys)) → P y
all_mid P [] y ys h = h.0
all_mid P (x ∷ xs) y ys h = all_mid P xs y ys h.1

all_map : (P Q : Row → Type 0) (xs : List Row) → ((x : Row) → P x → Q x) → All P xs → All Q xs
all_map P Q [] f h = tt
all_map P Q (x ∷ xs) f h = (f x h.0, all_map P Q xs f h.1)

all_both : (P Q R : Row → Type 0) (xs : List Row) → ((x : Row) → P x → Q x → R x) → All P xs → All Q xs → All R xs
all_both P Q R [] f h k = tt
all_both P Q R (x ∷ xs) f h k = (f x h.0 k.0, all_both P Q R xs f h.1 k.1)

-- a row's full is above 0
abbrev pub Full : Row → Type 0
Full r = zero < r.full

pub all_full : (xs : List Row) → any_bad xs ≡ false → All Full xs
unfolding any_bad
all_full [] h = tt
all_full (x ∷ xs) h = (good_full x.remaining x.full x.design (or_left (is_bad x.remaining x.full x.design) (any_bad xs) h), all_full xs (or_right (is_bad x.remaining x.full x.design) (any_bad xs) h))

-- where the lowest row stands in a table
pub record Split (rows : List Row) : Type 0 where
  pub before : List Row
  pub row : Row
  pub after : List Row
  pub is : rows ≡ before ++ (row ∷ after)
  pub first : All (Under row) before
  pub least : All (AtMost row) rows

-- ---- the definition's tests
most_all : (r : Row) (xs : List Row) → All (AtMost r) xs → at_most_all r xs ≡ true
unfolding at_most_all
most_all r [] h = refl
most_all r (x ∷ xs) h = rw (le-leb (r.remaining * x.full) (x.remaining * r.full) h.0, most_all r xs h.1)

not_most : (s r : Row) (xs ys : List Row) → Under r s → at_most_all s (xs ++ (r ∷ ys)) ≡ false
unfolding at_most_all
not_most s r [] ys h = rw (lt-leb (s.remaining * r.full) (r.remaining * s.full) h)
not_most s r (x ∷ xs) ys h = rw (not_most s r xs ys h) (and-false (at_most s x))

-- ---- the first that is at most every row is the one before which every row is strictly above it
found : (all before : List Row) (r : Row) (after front : List Row) (place : ℕ)
    → All (Under r) before → All (AtMost r) all → all ≡ front ++ (r ∷ after)
    → lowest_from all place (before ++ (r ∷ after)) ≡ Some (at_place r (place + length before))
unfolding lowest_from
found all [] r after front place u m e = rw (most_all r all m) (ap (λ (p : ℕ). Some (at_place r p)) (omega arith))
found all (s ∷ before) r after front place u m e =
    rw (ap (at_most_all s) e ∙ not_most s r front after u.0)
    (found all before r after front (suc place) u.1 m e ∙ ap (λ (p : ℕ). Some (at_place r p)) (omega arith))

pub lowest_is : (rows : List Row) (s : Split rows) → lowest_of rows ≡ Some (at_place s.row (length s.before))
lowest_is rows s =
    ap (lowest_from rows 0) s.is ∙ found rows s.before s.row s.after s.before 0 s.first s.least s.is
    ∙ ap (λ (p : ℕ). Some (at_place s.row p)) (omega arith)

-- ---- a table with a row, each full above 0, has one
most_through : (s r : Row) (xs : List Row) → Full r → AtMost s r → All (AtMost r) xs → All (AtMost s) xs
most_through s r xs p h = all_map (AtMost r) (AtMost s) xs (λ x k. ratio_le s.remaining s.full r.remaining r.full x.remaining x.full p h k)

under_through : (s r : Row) (xs : List Row) → All Full xs → Under s r → All (AtMost r) xs → All (Under s) xs
under_through s r xs p h = all_both Full (AtMost r) (Under s) xs (λ x f k. ratio_lt s.remaining s.full r.remaining r.full x.remaining x.full f h k) p

under_most : (r : Row) (xs : List Row) → All (Under r) xs → All (AtMost r) xs
under_most r xs = all_map (Under r) (AtMost r) xs (λ x k. le-of-lt-here (r.remaining * x.full) (x.remaining * r.full) k)
  where
    le-of-lt-here : (a b : ℕ) → a < b → a ≤ b
    le-of-lt-here a b h = omega arith

-- the lowest of the rest is below the first row, or the first row is the lowest
pick_front : (s : Row) (xs : List Row) → Full s → All Full xs → (w : Split xs) (b : Bool) → ltb (w.row.remaining * s.full) (s.remaining * w.row.full) ≡ b → Split (s ∷ xs)
pick_front s xs p ps w true t =
    let u : Under w.row s = ltb-true (w.row.remaining * s.full) (s.remaining * w.row.full) t in
    record {
      before = s ∷ w.before;
      row = w.row;
      after = w.after;
      is = ap (λ (l : List Row). s ∷ l) w.is;
      first = (u, w.first);
      least = (omega arith, w.least);
    }
pick_front s xs p ps w false t =
    let m : AtMost s w.row = ltb-false (w.row.remaining * s.full) (s.remaining * w.row.full) t in
    let f : Full w.row = all_mid Full w.before w.row w.after (subst (All Full) w.is ps) in
    record {
      before = [];
      row = s;
      after = xs;
      is = refl;
      first = tt;
      least = (omega arith, most_through s w.row xs f m w.least);
    }

pub split : (x : Row) (xs : List Row) → All Full (x ∷ xs) → Split (x ∷ xs)
split x [] p = record { before = []; row = x; after = []; is = refl; first = tt; least = (omega arith, tt) }
split x (y ∷ ys) p = pick_front x (y ∷ ys) p.0 p.1 (split y ys p.1) _ refl

-- ---- one row more
last_row : (xs : List Row) (x : Row) → All Full xs → (w : Split xs) → Under x w.row → Split (xs ++ (x ∷ []))
last_row xs x ps w u =
    let us : All (Under x) xs = under_through x w.row xs ps u w.least in
    record {
      before = xs;
      row = x;
      after = [];
      is = refl;
      first = us;
      least = all_append (AtMost x) xs (x ∷ []) (under_most x xs us) (omega arith, tt);
    }

same_row : (xs : List Row) (x : Row) (w : Split xs) → AtMost w.row x → Split (xs ++ (x ∷ []))
same_row xs x w m =
    record {
      before = w.before;
      row = w.row;
      after = w.after ++ (x ∷ []);
      is = ap (λ (l : List Row). l ++ (x ∷ [])) w.is ∙ append_assoc w.before (w.row ∷ w.after) (x ∷ []);
      first = w.first;
      least = all_append (AtMost w.row) xs (x ∷ []) w.least (m, tt);
    }

one_more : (xs : List Row) (x : Row) → All Full xs → (w : Split xs) (b : Bool) → ltb (x.remaining * w.row.full) (w.row.remaining * x.full) ≡ b
    → lowest_of (xs ++ (x ∷ [])) ≡ Some (lowest_with (Some (at_place w.row (length w.before))) (at_place x (length xs)))
unfolding same_row last_row
one_more xs x ps w true t = rw t (lowest_is (xs ++ (x ∷ [])) (last_row xs x ps w (ltb-true (x.remaining * w.row.full) (w.row.remaining * x.full) t)))
one_more xs x ps w false t = rw t (lowest_is (xs ++ (x ∷ [])) (same_row xs x w (ltb-false (x.remaining * w.row.full) (w.row.remaining * x.full) t)))

pub lowest_more : (xs : List Row) (x : Row) → All Full xs → Full x → lowest_of (xs ++ (x ∷ [])) ≡ Some (lowest_with (lowest_of xs) (at_place x (length xs)))
unfolding lowest_from split
lowest_more [] x p q = lowest_is (x ∷ []) (split x [] (q, tt))
lowest_more (y ∷ ys) x p q =
    let w : Split (y ∷ ys) = split y ys p in
    one_more (y ∷ ys) x p w _ refl ∙ ap (λ (l : Option Lowest). Some (lowest_with l (at_place x (length (y ∷ ys))))) (sym (lowest_is (y ∷ ys) w))
