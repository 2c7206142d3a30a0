-- The row rule and the walk over the rows, in any form: what each outcome of a test says of the definitions. Assumes nothing.
use mathlib.Core.Path.{◌≡◌, sym, ap, ◌∙◌}
use mathlib.Core.Bool.{true, false, ◌&&◌, and-eq-true_iff}
use mathlib.Core.List.{List}
use mathlib.Mathlib.Data.Bool.Basic.{eq-false_of_not-eq-true}
use Prim.Native.Nat.{ℕ, zero, suc, ◌+◌, ◌*◌, ◌-◌, ◌≤◌, ◌<◌}
use native.Mathlib.Omega.{arith}
use lib.Dec.{eqb, ltb, leb}
use lib.ListN.{length, get_or}
use borrow.Author.Tests.{lt-ltb, le-leb, eq-eqb, eqb-true, leb-true, ltb-true}
use Rattle.sheet.specs.Sheet.{TagKind, Form, tag_at, length_at, offset_at, rows_listed, allows, row_ok, rows_ok, is_sheet_of}

-- ---- a row

-- a row that is right
pub record RowRight (ks : List TagKind) (s : List ℕ) (at low end : ℕ) : Type 0 where
  pub least : low ≤ tag_at s at
  pub allowed : allows ks (tag_at s at) (length_at s at) ≡ true
  pub starts : offset_at s at ≡ end

module _ (ks : List TagKind) (s : List ℕ) (at low end : ℕ) where
  right : row_ok ks s at low end ≡ true → RowRight ks s at low end
  unfolding row_ok
  right e =
      let b = (and-eq-true_iff (leb low (tag_at s at) && allows ks (tag_at s at) (length_at s at)) (eqb (offset_at s at) end)).0 e in
      let a = (and-eq-true_iff (leb low (tag_at s at)) (allows ks (tag_at s at) (length_at s at))).0 b.0 in
      record { least = leb-true _ _ a.0; allowed = a.1; starts = eqb-true _ _ b.1 }

  pub row-refused : (RowRight ks s at low end → ⊥) → false ≡ row_ok ks s at low end
  row-refused h = sym (eq-false_of_not-eq-true (λ e. h (right e)))

  pub by-offset : (o : ℕ) → low ≤ tag_at s at → allows ks (tag_at s at) (length_at s at) ≡ true → o ≡ offset_at s at → eqb o end ≡ row_ok ks s at low end
  unfolding row_ok
  by-offset o a h e = simp (le-leb _ _ a, h, e)

-- ---- the walk

-- the first of the rows that are left, and the rest
pub first_right : (ks : List TagKind) (n : ℕ) (s : List ℕ) (at low end : ℕ) → rows_ok ks (suc n) s at low end ≡ true
    → RowRight ks s at low end × (rows_ok ks n s (at + 4) (tag_at s at + 1) (end + length_at s at) ≡ true)
unfolding rows_ok
first_right ks n s at low end e =
    let b = (and-eq-true_iff (row_ok ks s at low end) (rows_ok ks n s (at + 4) (tag_at s at + 1) (end + length_at s at))).0 e in
    (right ks s at low end b.0, b.1)

-- the last body ends the sheet, so no body reaches past it
pub reach : (ks : List TagKind) (n : ℕ) (s : List ℕ) (at low end : ℕ) → rows_ok ks n s at low end ≡ true → end ≤ length s
unfolding rows_ok
reach ks zero s at low end e = omega (arith, eqb-true end (length s) e)
reach ks (suc n) s at low end e = omega (arith, reach ks n s (at + 4) (tag_at s at + 1) (end + length_at s at) (first_right ks n s at low end e).1)

-- i of n rows are passed, and the test of the rest is the test of all
module _ (ks : List TagKind) (s : List ℕ) (n i low end first : ℕ) (inv : rows_ok ks (n - i) s (1 + 4 * i) low end ≡ rows_ok ks n s 1 0 first) where
  more : i < n → rows_ok ks n s 1 0 first ≡ rows_ok ks (suc (n - (i + 1))) s (1 + 4 * i) low end
  more h = let z : n - i ≡ suc (n - (i + 1)) = omega arith in sym inv ∙ ap (λ (k : ℕ). rows_ok ks k s (1 + 4 * i) low end) z

  pub row-bad : i < n → row_ok ks s (1 + 4 * i) low end ≡ false → rows_ok ks n s 1 0 first ≡ false
  unfolding rows_ok
  row-bad h e = more h ∙ rw e

  pub row-good : (t l : ℕ) → i < n → row_ok ks s (1 + 4 * i) low end ≡ true → t ≡ tag_at s (1 + 4 * i) → l ≡ length_at s (1 + 4 * i)
      → rows_ok ks (n - (i + 1)) s (1 + 4 * (i + 1)) (t + 1) (end + l) ≡ rows_ok ks n s 1 0 first
  unfolding rows_ok
  row-good t l h e et el = let z : 1 + 4 * (i + 1) ≡ 1 + 4 * i + 4 = omega arith in rw z (sym (more h ∙ rw (e, et, el)))

  pub rows_end : n ≤ i → rows_ok ks n s 1 0 first ≡ eqb end (length s)
  unfolding rows_ok
  rows_end h = let z : n - i ≡ 0 = omega arith in sym inv ∙ ap (λ (k : ℕ). rows_ok ks k s (1 + 4 * i) low end) z

pub rows_start : (ks : List TagKind) (n : ℕ) (s : List ℕ) (first : ℕ) → rows_ok ks (n - 0) s 1 0 first ≡ rows_ok ks n s 1 0 first
rows_start ks n s first = let z : n - 0 ≡ n = omega arith in ap (λ (k : ℕ). rows_ok ks k s 1 0 first) z

-- ---- the sheet

-- what a sheet's first byte and rows are
pub record Contents (f : Form) (s : List ℕ) : Type 0 where
  pub some : 0 < length s
  pub marked : get_or s 0 0 ≡ f.mark + rows_listed s
  pub few : rows_listed s ≤ length f.kinds
  pub fits : 1 + 4 * rows_listed s ≤ length s
  pub rows : rows_ok f.kinds (rows_listed s) s 1 0 (1 + 4 * rows_listed s) ≡ true

module _ (f : Form) (s : List ℕ) where
  pub contents : is_sheet_of f s ≡ true → Contents f s
  unfolding is_sheet_of
  contents e =
      let n : ℕ = rows_listed s in
      let d = (and-eq-true_iff (ltb 0 (length s) && eqb (get_or s 0 0) (f.mark + n) && leb n (length f.kinds) && leb (1 + 4 * n) (length s)) (rows_ok f.kinds n s 1 0 (1 + 4 * n))).0 e in
      let c = (and-eq-true_iff (ltb 0 (length s) && eqb (get_or s 0 0) (f.mark + n) && leb n (length f.kinds)) (leb (1 + 4 * n) (length s))).0 d.0 in
      let b = (and-eq-true_iff (ltb 0 (length s) && eqb (get_or s 0 0) (f.mark + n)) (leb n (length f.kinds))).0 c.0 in
      let a = (and-eq-true_iff (ltb 0 (length s)) (eqb (get_or s 0 0) (f.mark + n))).0 b.0 in
      record { some = ltb-true _ _ a.0; marked = eqb-true _ _ a.1; few = leb-true _ _ b.1; fits = leb-true _ _ c.1; rows = d.1 }

  pub refused : (Contents f s → ⊥) → false ≡ is_sheet_of f s
  refused h = sym (eq-false_of_not-eq-true (λ e. h (contents e)))

  pub by_rows : (n first : ℕ) → first ≡ 1 + 4 * n → n ≡ rows_listed s → 0 < length s → get_or s 0 0 ≡ f.mark + n → n ≤ length f.kinds → first ≤ length s → is_sheet_of f s ≡ rows_ok f.kinds n s 1 0 first
  unfolding is_sheet_of
  by_rows n first o e p m k l = simp (lt-ltb _ _ p, ← e, eq-eqb _ _ m, le-leb _ _ k, ← o, le-leb _ _ l)
