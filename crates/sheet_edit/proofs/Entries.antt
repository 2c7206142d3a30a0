-- Entries that may be listed are those below a tag, those with it and those above it; and the rows that are counted. Assumes nothing.
use mathlib.Core.Path.{◌≡◌, refl, ap, ◌∙◌}
use mathlib.Core.Bool.{Bool, true, false, cond}
use mathlib.Core.List.{List, [], ◌∷◌, ◌++◌}
use Prim.Native.Nat.{ℕ, zero, suc, ◌+◌, ◌≤◌, ◌<◌}
use native.Mathlib.Omega.{arith}
use lib.Dec.{ltb, eqb}
use lib.ListN.{length}
use borrow.Author.Tests.{lt-ltb, le-ltb, eq-eqb, ne_eqb, ltb-true, ltb-false}
use Rattle.sheet.specs.Sheet.{Entry, TagKind, tag_at, entries_from}
use Rattle.sheet_forms.specs.Forms.{listable}
use Rattle.sheet_forms.proofs.Entries.{first}
use Rattle.sheet_steps.specs.Steps.{count_below}
use Rattle.sheet_edit.specs.Edit.{below, above}

-- ---- the order of two numbers

pub data Order (a b : ℕ) : Type 0 where
  is-less : a < b → Order a b
  is_same : a ≡ b → Order a b
  is-more : b < a → Order a b

by_tests : (a b : ℕ) (x y : Bool) → ltb a b ≡ x → ltb b a ≡ y → Order a b
by_tests a b true y p q = is-less (ltb-true a b p)
by_tests a b false true p q = is-more (ltb-true b a q)
by_tests a b false false p q = is_same (omega (arith, ltb-false a b p, ltb-false b a q))

pub order : (a b : ℕ) → Order a b
order a b = by_tests a b (ltb a b) (ltb b a) refl refl

-- ---- the three parts

-- those with a tag
pub same : ℕ → List Entry → List Entry
same tag [] = []
same tag (e ∷ es) = cond (eqb e.tag tag) (e ∷ same tag es) (same tag es)

-- each entry is in one of them
module _ (t : ℕ) (e : Entry) (es : List Entry) where
  pub record Sorted (b s a : List Entry) : Type 0 where
    pub is_below : below t (e ∷ es) ≡ b
    pub is_same : same t (e ∷ es) ≡ s
    pub is-above : above t (e ∷ es) ≡ a

  pub when-less : e.tag < t → Sorted (e ∷ below t es) (same t es) (above t es)
  unfolding below same above
  when-less h = record { is_below = rw (lt-ltb e.tag t h); is_same = rw (ne_eqb e.tag t (λ q. omega arith)); is-above = rw (le-ltb t e.tag (omega arith)) }

  pub when-same : e.tag ≡ t → Sorted (below t es) (e ∷ same t es) (above t es)
  unfolding below same above
  when-same q = record { is_below = rw (le-ltb e.tag t (omega arith)); is_same = rw (eq-eqb e.tag t q); is-above = rw (le-ltb t e.tag (omega arith)) }

  pub when-more : t < e.tag → Sorted (below t es) (same t es) (e ∷ above t es)
  unfolding below same above
  when-more h = record { is_below = rw (le-ltb e.tag t (omega arith)); is_same = rw (ne_eqb e.tag t (λ q. omega arith)); is-above = rw (lt-ltb t e.tag h) }

-- of entries whose tags rise from above a tag on, all are above it
pub record High (t : ℕ) (es : List Entry) : Type 0 where
  pub no_below : below t es ≡ []
  pub no_same : same t es ≡ []
  pub all_above : above t es ≡ es

pub high : (ks : List TagKind) (low t : ℕ) (es : List Entry) → listable ks low es ≡ true → t < low → High t es
unfolding below same above
high ks low t [] g h = record { no_below = refl; no_same = refl; all_above = refl }
high ks low t (e ∷ es) g h =
    let f = first ks low e es g in
    let S = when-more t e es (omega (arith, f.least)) in
    let H = high ks (e.tag + 1) t es f.rest (omega (arith, f.least)) in
    record { no_below = S.is_below ∙ H.no_below; no_same = S.is_same ∙ H.no_same; all_above = S.is-above ∙ ap (λ (x : List Entry). e ∷ x) H.all_above }

-- none is below the tag from which they rise
pub none_below : (ks : List TagKind) (low t : ℕ) (es : List Entry) → listable ks low es ≡ true → t ≤ low → below t es ≡ []
unfolding below
none_below ks low t [] g h = refl
none_below ks low t (e ∷ es) g h =
    let f = first ks low e es g in
    rw (le-ltb e.tag t (omega (arith, f.least))) (none_below ks (e.tag + 1) t es f.rest (omega (arith, f.least)))

-- the parts, one after another, are all of them
pub record Parts (t : ℕ) (es : List Entry) : Type 0 where
  pub whole : below t es ++ (same t es ++ above t es) ≡ es
  pub up_to : below (t + 1) es ≡ below t es ++ same t es

module _ (ks : List TagKind) (t : ℕ) (e : Entry) (es : List Entry) (g : listable ks (e.tag + 1) es ≡ true) where
  part_by : Parts t es → Order e.tag t → Parts t (e ∷ es)
  part_by ih (is-less h) =
      let S = when-less t e es h in
      let S' = when-less (t + 1) e es (omega arith) in
      record { whole = rw (S.is_below, S.is_same, S.is-above) (ap (λ (x : List Entry). e ∷ x) ih.whole); up_to = rw (S'.is_below, S.is_below, S.is_same) (ap (λ (x : List Entry). e ∷ x) ih.up_to) }
  part_by ih (is_same q) =
      let S = when-same t e es q in
      let S' = when-less (t + 1) e es (omega arith) in
      let H = high ks (e.tag + 1) t es g (omega arith) in
      let n = none_below ks (e.tag + 1) (t + 1) es g (omega arith) in
      record { whole = rw (S.is_below, S.is_same, S.is-above, H.no_below, H.no_same, H.all_above); up_to = rw (S'.is_below, S.is_below, S.is_same, n, H.no_below, H.no_same) }
  part_by ih (is-more h) =
      let S = when-more t e es h in
      let b : below (t + 1) (e ∷ es) ≡ below (t + 1) es = by_order (order e.tag (t + 1)) in
      let H = high ks (e.tag + 1) t es g (omega arith) in
      let n = none_below ks (e.tag + 1) (t + 1) es g (omega arith) in
      record { whole = rw (S.is_below, S.is_same, S.is-above, H.no_below, H.no_same, H.all_above); up_to = rw (b, S.is_below, S.is_same, n, H.no_below, H.no_same) }
    where
      by_order : Order e.tag (t + 1) → below (t + 1) (e ∷ es) ≡ below (t + 1) es
      by_order (is-less k) = absurd (omega arith)
      by_order (is_same k) = (when-same (t + 1) e es k).is_below
      by_order (is-more k) = (when-more (t + 1) e es k).is_below

pub parts : (ks : List TagKind) (low t : ℕ) (es : List Entry) → listable ks low es ≡ true → Parts t es
unfolding below same above
parts ks low t [] g = record { whole = refl; up_to = refl }
parts ks low t (e ∷ es) g = let f = first ks low e es g in part_by ks t e es f.rest (parts ks (e.tag + 1) t es f.rest) (order e.tag t)

-- ---- rows that are counted

counted : (b : Bool) (e : Entry) (es : List Entry) → cond b 1 0 + length es ≡ length (cond b (e ∷ es) es)
counted true e es = omega arith
counted false e es = omega arith

pub count_is : (n : ℕ) (s : List ℕ) (at tag : ℕ) → count_below n s at tag ≡ length (below tag (entries_from n s at))
unfolding count_below entries_from below
count_is zero s at tag = refl
count_is (suc n) s at tag =
    ap (λ (k : ℕ). cond (ltb (tag_at s at) tag) 1 0 + k) (count_is n s (at + 4) tag) ∙ counted (ltb (tag_at s at) tag) _ (below tag (entries_from n s (at + 4)))
