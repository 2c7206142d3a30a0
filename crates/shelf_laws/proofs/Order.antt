-- Two tables with the same rows in another order have the same figures, but for where the lowest row stands.
-- Assumes nothing.
use mathlib.Core.Path.{◌≡◌, refl, sym, ap, ◌∙◌, subst}
use mathlib.Core.Bool.{Bool, cond, ◌||◌, Bool-set, or_assoc, or_comm}
use mathlib.Core.List.Perm
use mathlib.Core.List.Permᴰ
use mathlib.Core.List.{List, [], ◌∷◌, foldr, Perm, Permᴰ}
use mathlib.Core.Logic.{∥∥₁_elim}
use Prim.Native.Nat.{ℕ, suc, ◌+◌}
use native.Mathlib.Nat.{ℕ_set, le_antisymm}
use native.Mathlib.Omega.{arith}
use lib.ListN.{length}
use Rattle.shelf.specs.Shelf.{any_bad, total, lowest_from, lowest_of, figures, report_of}
use Rattle.shelf.specs.Ratios.{All, AtMost}
use Rattle.shelf.specs.declared.Row.{Row}
use Rattle.shelf_row.specs.Rows.{is_bad, is_low}
use Rattle.shelf.proofs.Low.{all_mid, Split, split, all_full, lowest_is}
use Rattle.shelf.proofs.Steps.{report_large, report_bad}
use Rattle.shelf_laws.specs.Promises.{SameRatio, SameFigures, SameReport, AnyOrder}
use Rattle.shelf_laws.proofs.Cases.{Case, large, bad, good, Good, case, good_is}

-- ---- folds

fold_is : {B : Type 0} (f : List Row → B) (g : Row → B → B) → ((r : Row) (rows : List Row) → f (r ∷ rows) ≡ g r (f rows)) → (rows : List Row) → f rows ≡ foldr g (f []) rows
fold_is f g step [] = refl
fold_is f g step (r ∷ rows) = step r rows ∙ ap (g r) (fold_is f g step rows)

-- what is folded over the rows, of which no two ask for an order
any_fold : {B : Type 0} → IsSet B → (f : List Row → B) (g : Row → B → B)
    → ((r : Row) (rows : List Row) → f (r ∷ rows) ≡ g r (f rows)) → ((r s : Row) (b : B) → g r (g s b) ≡ g s (g r b))
    → (xs ys : List Row) → Perm xs ys → f xs ≡ f ys
any_fold set f g step swap xs ys p = fold_is f g step xs ∙ Perm.foldr-eq set g swap p (f []) ∙ sym (fold_is f g step ys)

any_length : (xs ys : List Row) → Perm xs ys → length xs ≡ length ys
any_length = any_fold ℕ_set length (λ r n. suc n) (λ r rows. refl) (λ r s n. refl)

any_total : (of : Row → ℕ) (xs ys : List Row) → Perm xs ys → total of xs ≡ total of ys
unfolding total
any_total of = any_fold ℕ_set (total of) (λ r n. of r + n) (λ r rows. refl) (λ r s n. omega arith)

any-bad : (xs ys : List Row) → Perm xs ys → any_bad xs ≡ any_bad ys
unfolding any_bad
any-bad = any_fold Bool-set any_bad (λ r b. is_bad r.remaining r.full r.design || b) (λ r rows. refl) (λ r s b. swapped (is_bad r.remaining r.full r.design) (is_bad s.remaining s.full s.design) b)
  where
    swapped : (a b c : Bool) → a || (b || c) ≡ b || (a || c)
    swapped a b c = sym (or_assoc a b c) ∙ ap (λ (d : Bool). d || c) (or_comm a b) ∙ or_assoc b a c

-- ---- the lowest

all_perm : (P : Row → Type 0) {xs ys : List Row} → Permᴰ xs ys → All P xs → All P ys
all_perm P Permᴰ.nil h = h
all_perm P (Permᴰ.cons e d) h = (subst P e h.0, all_perm P d h.1)
all_perm P (Permᴰ.swap e₁ e₂) h = (subst P e₂ h.1.0, (subst P e₁ h.0, h.1.1))
all_perm P (Permᴰ.trans d₁ d₂) h = all_perm P d₂ (all_perm P d₁ h)

-- the lowest of one table is at most that of the other
at_most_other : {xs ys : List Row} → Permᴰ xs ys → (w : Split xs) (v : Split ys) → AtMost w.row v.row
at_most_other d w v = all_mid (AtMost w.row) v.before v.row v.after (subst (All (AtMost w.row)) v.is (all_perm (AtMost w.row) d w.least))

same_lowest : (xs ys : List Row) → Perm xs ys → length xs ≡ length ys → Good xs → Good ys → SameRatio (lowest_of xs) (lowest_of ys)
unfolding lowest_from
same_lowest [] [] p n g h = tt
same_lowest [] (y ∷ ys) p n g h = absurd (omega arith)
same_lowest (x ∷ xs) [] p n g h = absurd (omega arith)
same_lowest (x ∷ xs) (y ∷ ys) p n g h =
    let w : Split (x ∷ xs) = split x xs (all_full (x ∷ xs) g.fine) in
    let v : Split (y ∷ ys) = split y ys (all_full (y ∷ ys) h.fine) in
    rw (lowest_is (x ∷ xs) w, lowest_is (y ∷ ys) v)
    (∥∥₁_elim p (ℕ_set _ _) (λ d. le_antisymm (at_most_other d w v) (at_most_other (Permᴰ.symm d) v w)))

-- ---- the figures

pub any_order : AnyOrder
any_order xs ys p = by (case xs)
  where
    n : length xs ≡ length ys
    n = any_length xs ys p

    b : any_bad xs ≡ any_bad ys
    b = any-bad xs ys p

    by : Case xs → SameReport (report_of xs) (report_of ys)
    by (large many e) = rw (e, report_large ys (omega (arith, n))) refl
    by (bad few e f) = rw (f, report_bad ys (omega (arith, n)) (sym b ∙ e)) refl
    by (good g) =
        let few = g.few in
        let h = good_is ys (omega (arith, n)) (sym b ∙ g.fine) in
        let same : SameFigures (figures xs) (figures ys) = record {
          packs = n;
          remaining = any_total (λ (r : Row). r.remaining) xs ys p;
          full = any_total (λ (r : Row). r.full) xs ys p;
          low = any_total (λ (r : Row). cond (is_low r.remaining r.full) 1 0) xs ys p;
          lowest = same_lowest xs ys p n g h;
        } in
        rw (g.is, h.is) same
