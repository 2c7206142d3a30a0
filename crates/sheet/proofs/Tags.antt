-- What a form allows: tag by tag in the form of document 01, and how much in any. Assumes nothing.
use mathlib.Core.Path.{◌≡◌, refl, sym, ◌∙◌}
use mathlib.Core.Bool.{Bool, true, false, cond, ◌&&◌, and-eq-true_iff}
use mathlib.Core.List.{List, [], ◌∷◌}
use Prim.Native.Nat.{ℕ, zero, suc, ◌+◌, ◌-◌, ◌≤◌}
use native.Mathlib.Omega.{arith}
use lib.Dec.{eqb, leb}
use borrow.Author.Tests.{le-leb, lt-leb, leb-true, leb-false, ne_eqb, eqb-true}
use Rattle.sheet.specs.Sheet.{TagKind, old, allows}

-- ---- the tags 20 to 23

names : (k l : ℕ) → k ≤ 3 → allows old.kinds (0x20 + k) l ≡ leb l 32
unfolding old allows
names zero l h = simp (le-leb 0 l (omega arith))
names (suc zero) l h = simp (le-leb 0 l (omega arith))
names (suc (suc zero)) l h = simp (le-leb 0 l (omega arith))
names (suc (suc (suc zero))) l h = simp (le-leb 0 l (omega arith))
names (suc (suc (suc (suc k)))) l h = absurd (omega arith)

module _ (t l : ℕ) where
  pub no-others : (0x20 ≤ t → t ≤ 0x23 → ⊥) → allows old.kinds t l ≡ false
  unfolding old allows
  no-others h =
      simp (ne_eqb 0x20 t (λ e. h (omega arith) (omega arith)), ne_eqb 0x21 t (λ e. h (omega arith) (omega arith)), ne_eqb 0x22 t (λ e. h (omega arith) (omega arith)), ne_eqb 0x23 t (λ e. h (omega arith) (omega arith)))

  by_tests : (a b : Bool) → leb 0x20 t ≡ a → leb t 0x23 ≡ b → allows old.kinds t l ≡ a && b && leb l 32
  by_tests false b p q = no-others (λ x y. omega (arith, leb-false 0x20 t p))
  by_tests true false p q = no-others (λ x y. omega (arith, leb-false t 0x23 q))
  by_tests true true p q =
      let z : t ≡ 0x20 + (t - 0x20) = omega (arith, leb-true 0x20 t p) in
      rw z (names (t - 0x20) l (omega (arith, leb-true t 0x23 q)))

  -- a tag from 20 to 23, and a length from 0 to 32
  pub allows-is : allows old.kinds t l ≡ leb 0x20 t && leb t 0x23 && leb l 32
  allows-is = by_tests (leb 0x20 t) (leb t 0x23) refl refl

  pub allowed-short : allows old.kinds t l ≡ true → l ≤ 32
  allowed-short e = leb-true l 32 ((and-eq-true_iff (leb 0x20 t && leb t 0x23) (leb l 32)).0 (sym allows-is ∙ e)).1

-- ---- of any kinds, each weighed: those whose tag is `low` or above

unfoldable pub over : (TagKind → ℕ) → ℕ → List TagKind → ℕ
over w low [] = 0
over w low (k ∷ ks) = cond (leb low k.tag) (w k) 0 + over w low ks

-- fewer have a higher tag
fewer : (x t low high : ℕ) → low ≤ high → (a b : Bool) → leb low t ≡ a → leb high t ≡ b → cond b x 0 ≤ cond a x 0
fewer x t low high h a false p q = omega arith
fewer x t low high h true true p q = omega arith
fewer x t low high h false true p q = absurd (omega (arith, leb-false low t p, leb-true high t q))

over_less : (w : TagKind → ℕ) (low high : ℕ) (ks : List TagKind) → low ≤ high → over w high ks ≤ over w low ks
unfolding over
over_less w low high [] h = omega arith
over_less w low high (k ∷ ks) h = omega (arith, fewer (w k) k.tag low high h (leb low k.tag) (leb high k.tag) refl refl, over_less w low high ks h)

-- one that is allowed, and those above it
pub over_one : (w : TagKind → ℕ) (m low t l : ℕ) (ks : List TagKind) → ((k : TagKind) → l ≤ k.most → m ≤ w k) → low ≤ t → allows ks t l ≡ true → m + over w (t + 1) ks ≤ over w low ks
unfolding over allows
over_one w m low t l [] weight h e = let z : ◌≡◌ {A = ℕ} 0 1 = cc in absurd (omega arith)
over_one w m low t l (k ∷ ks) weight h e = by-tag (eqb k.tag t) refl (λ g. over_one w m low t l ks weight h g)
  where
    by-tag : (b : Bool) → eqb k.tag t ≡ b → (allows ks t l ≡ true → m + over w (t + 1) ks ≤ over w low ks) → m + over w (t + 1) (k ∷ ks) ≤ over w low (k ∷ ks)
    by-tag true q next =
        let is : k.tag ≡ t = eqb-true k.tag t q in
        let fits : leb k.least l && leb l k.most ≡ true = rw q at e in
        let most : m ≤ w k = weight k (leb-true l k.most ((and-eq-true_iff (leb k.least l) (leb l k.most)).0 fits).1) in
        rw (le-leb low k.tag (omega arith), lt-leb (t + 1) k.tag (omega arith)) (omega (arith, over_less w low (t + 1) ks (omega arith)))
    by-tag false q next =
        omega (arith, fewer (w k) k.tag low (t + 1) (omega arith) (leb low k.tag) (leb (t + 1) k.tag) refl refl, next (rw q at e))

-- from 0 on there are all of them
pub over_all : (w : TagKind → ℕ) (k : TagKind) (ks : List TagKind) → over w 0 (k ∷ ks) ≡ w k + over w 0 ks
unfolding over
over_all w k ks = rw (le-leb 0 k.tag (omega arith))
