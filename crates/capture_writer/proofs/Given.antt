-- What the writer is given: its test, a row at a time, and its stores. Assumes nothing.
use mathlib.Core.Path.{◌≡◌, refl, sym, ap, ◌∙◌}
use mathlib.Core.Logic.{◌⊎◌, inl, inr}
use mathlib.Core.Bool.{true, false, and-false}
use mathlib.Core.List.{List, [], ◌∷◌}
use Prim.Native.Nat.{ℕ, suc, ◌+◌, ◌*◌, ◌≤◌, ◌<◌}
use native.Mathlib.Numerals.{add-one}
use native.Mathlib.Omega.{arith}
use lib.Dec.{eqb}
use lib.ListN.{length, set, length-set}
use lib.Seq.{sets}
use borrow.Author.Tests.{le-leb, lt-leb, eq-eqb, ne_eqb}
use Rattle.capture_writer.specs.Writer.{interleaved, pairs_fit, sum, given_fit}

-- some rows are tested: those left decide as all do
pub record Tested (marks sizes ms ls : List ℕ) (total : ℕ) : Type 0 where
  pub even : length ms ≡ length ls
  pub most : total + 37 * length ms ≤ 37 * length marks
  pub total_so : total + sum ls ≡ sum sizes
  pub pairs : pairs_fit ms ls ≡ pairs_fit marks sizes

module _ {marks sizes ms ls ms' ls' : List ℕ} {total m l : ℕ} (h : Tested marks sizes ms ls total) (first : ms ≡ m ∷ ms') (second : ls ≡ l ∷ ls') where
  pairs_now : pairs_fit (m ∷ ms') (l ∷ ls') ≡ pairs_fit marks sizes
  pairs_now = ap (λ (x : List ℕ). pairs_fit x (l ∷ ls')) (sym first) ∙ ap (pairs_fit ms) (sym second) ∙ h.pairs

  pub unfit_mark : 1 < m → pairs_fit marks sizes ≡ false
  unfolding pairs_fit
  unfit_mark b = sym pairs_now ∙ simp (lt-leb _ _ b)

  pub unfit_size : 37 < l → pairs_fit marks sizes ≡ false
  unfolding pairs_fit
  unfit_size b = sym pairs_now ∙ simp (lt-leb _ _ b, and-false)

  pub more : m ≤ 1 → l ≤ 37 → Tested marks sizes ms' ls' (total + l)
  unfolding pairs_fit sum
  more a b =
      let n = ap length first in
      let k = ap length second in
      let s = ap sum second in
      let one : pairs_fit (m ∷ ms') (l ∷ ls') ≡ pairs_fit ms' ls' = simp (le-leb _ _ a, le-leb _ _ b) in
      record { even = omega (arith, h.even, n, k); most = omega (arith, h.most, n); total_so = omega (arith, h.total_so, s); pairs = sym one ∙ pairs_now }

pub none_tested : {marks sizes ms ls : List ℕ} → ms ≡ marks → ls ≡ sizes → length marks ≡ length sizes → Tested marks sizes ms ls 0
none_tested {marks} {sizes} {ms} {ls} first second n = rw (first, second) (record { even = n; most = omega arith; total_so = omega arith; pairs = refl })

pub all_tested : (marks sizes ms ls : List ℕ) {total : ℕ} → Tested marks sizes ms ls total → ◌⊎◌ (ms ≡ []) (ls ≡ []) → (pairs_fit marks sizes ≡ true) × (total ≡ sum sizes)
unfolding pairs_fit sum
all_tested marks sizes [] [] h e = (sym h.pairs, omega (arith, h.total_so))
all_tested marks sizes (m ∷ ms) [] h e = absurd (omega (arith, h.even))
all_tested marks sizes [] (l ∷ ls) h e = absurd (omega (arith, h.even))
all_tested marks sizes (m ∷ ms) (l ∷ ls) h (inl e) = cc
all_tested marks sizes (m ∷ ms) (l ∷ ls) h (inr e) = cc

-- some rows are stored: with those left, all that is asked is stored
pub record Stored (marks sizes ms ls : List ℕ) (room rest : List ℕ) (at : ℕ) : Type 0 where
  pub even : length ms ≡ length ls
  pub place : at + 2 * length ms ≡ 2 * length marks + 1
  pub size : length rest ≡ length room
  pub left : sets rest at (interleaved ms ls) ≡ sets room 1 (interleaved marks sizes)

pub none_stored : {marks sizes ms ls room : List ℕ} → ms ≡ marks → ls ≡ sizes → length marks ≡ length sizes → Stored marks sizes ms ls room room 1
none_stored {marks} {sizes} {ms} {ls} first second n = rw (first, second) (record { even = n; place = omega arith; size = refl; left = refl })

module _ {marks sizes ms ls ms' ls' room rest : List ℕ} {at m l : ℕ} (h : Stored marks sizes ms ls room rest at) (first : ms ≡ m ∷ ms') (second : ls ≡ l ∷ ls') where
  pub stored_more : Stored marks sizes ms' ls' room (set (set rest at m) (at + 1) l) (at + 2)
  unfolding interleaved
  stored_more =
      let n = ap length first in
      let k = ap length second in
      let two : at + 2 ≡ suc (suc at) = omega arith in
      let now : sets rest at (interleaved (m ∷ ms') (l ∷ ls')) ≡ sets room 1 (interleaved marks sizes) = ap (λ (x : List ℕ). sets rest at (interleaved x (l ∷ ls'))) (sym first) ∙ ap (λ (x : List ℕ). sets rest at (interleaved ms x)) (sym second) ∙ h.left in
      record { even = omega (arith, h.even, n, k); place = omega (arith, h.place, n); size = simp length-set h.size; left = rw (two, add-one) now }

pub stored_all : (marks sizes ms ls room rest : List ℕ) {at : ℕ} → Stored marks sizes ms ls room rest at → ◌⊎◌ (ms ≡ []) (ls ≡ []) → rest ≡ sets room 1 (interleaved marks sizes)
unfolding interleaved
stored_all marks sizes [] ls room rest h e = h.left
stored_all marks sizes (m ∷ ms) [] room rest h e = absurd (omega (arith, h.even))
stored_all marks sizes (m ∷ ms) (l ∷ ls) room rest h (inl e) = cc
stored_all marks sizes (m ∷ ms) (l ∷ ls) room rest h (inr e) = cc

module _ (marks sizes bodies : List ℕ) where
  pub given_uneven : (length marks ≡ length sizes → ⊥) → false ≡ given_fit marks sizes bodies
  unfolding given_fit
  given_uneven h = simp (ne_eqb _ _ h)

  pub given_over : 255 < length marks → false ≡ given_fit marks sizes bodies
  unfolding given_fit
  given_over h = simp (lt-leb _ _ h, and-false)

  pub given_unfit : pairs_fit marks sizes ≡ false → false ≡ given_fit marks sizes bodies
  unfolding given_fit
  given_unfit e = simp (e, and-false)

  pub given_told : (total : ℕ) → length marks ≡ length sizes → length marks ≤ 255 → pairs_fit marks sizes ≡ true → total ≡ sum sizes → eqb total (length bodies) ≡ given_fit marks sizes bodies
  unfolding given_fit
  given_told total n b e t = simp (eq-eqb _ _ n, le-leb _ _ b, e, t)
