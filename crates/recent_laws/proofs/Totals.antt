-- Totals of currents: of two parts, of one current for long, what they can be, and how a kept total goes on.
-- Assumes nothing.
use Prim.Native.Nat.{ℕ, zero, suc, ◌+◌, ◌≤◌}
use mathlib.Core.Bool.{true}
use mathlib.Core.List.{List, [], ◌∷◌, ◌++◌}
use mathlib.Core.Path.{◌≡◌, refl, ap, ◌∙◌, sym, subst}
use native.Mathlib.Omega.{arith}
use lib.IntN.{ℤ, pos, negsuc, ◌+ℤ◌, ◌*ℤ◌, +ℤ_assoc, +ℤ_comm, +ℤ_idl, *ℤ_comm, *ℤ-zero, suc_ℤ-*ℤ}
use lib.ListN.{length, replicate}
use mir.Facts.{to_z-of_z}
use mir.Syntax.{w16, w32}
use mir.Val.{SFits, to_z, of_z}
use Rattle.recent.specs.Recent.{can_give}
use Rattle.seconds.specs.Seconds.{flowed_of}
use Rattle.recent.proofs.Totals.{pos_can, neg_can, sum_can, can_fits}
use Rattle.recent_laws.specs.Kept.{total_word}
use Rattle.recent_laws.specs.Minute.{total_of}
use Rattle.recent_laws.specs.Promises.{Currents}

-- ---- sums

pub total_append : (a b : List ℤ) → total_of (a ++ b) ≡ total_of a +ℤ total_of b
unfolding total_of
total_append [] b = sym (+ℤ_idl (total_of b))
total_append (c ∷ a) b = ap (λ (z : ℤ). c +ℤ z) (total_append a b) ∙ sym (+ℤ_assoc c (total_of a) (total_of b))

total_rep : (m : ℕ) (c : ℤ) → total_of (replicate m c) ≡ c *ℤ pos m
unfolding total_of
total_rep zero c = sym (*ℤ-zero c)
total_rep (suc m) c =
    ap (λ (z : ℤ). c +ℤ z) (total_rep m c ∙ *ℤ_comm c (pos m))
    ∙ +ℤ_comm c (pos m *ℤ c)
    ∙ sym (suc_ℤ-*ℤ (pos m) c)
    ∙ *ℤ_comm (pos (suc m)) c

-- ---- ranges

one_can : (c : ℤ) → SFits w16 c → can_give 1 c ≡ true
one_can (pos n) h = pos_can 1 n (omega (arith, h.sfits))
one_can (negsuc n) h = neg_can 1 n (omega (arith, h.sfits))

-- what currents give
pub total_can : (l : List ℤ) → Currents l → can_give (length l) (total_of l) ≡ true
unfolding total_of
total_can [] h = refl
total_can (c ∷ l) (f, h) =
    let e : 1 + length l ≡ suc (length l) = omega arith in
    subst (λ (n : ℕ). can_give n (c +ℤ total_of l) ≡ true) e (sum_can 1 (length l) c (total_of l) (one_can c f) (total_can l h))

-- ---- kept totals

-- a kept total stands for what it is the total of
pub kept_total : (l : List ℤ) → Currents l → length l ≤ 1000 → to_z w32 (total_word l) ≡ total_of l
kept_total l h n = to_z-of_z (can_fits (length l) (total_of l) (omega arith) (total_can l h))

-- it goes on by a current
pub flows : (g : List ℤ) (c : ℤ) (m : ℕ) → Currents g → SFits w16 c → length g ≤ 1000
    → flowed_of (total_word g) (of_z w16 c) m ≡ total_word (g ++ replicate m c)
flows g c m h f n =
    ap (λ (z : ℤ). of_z w32 (z +ℤ to_z w16 (of_z w16 c) *ℤ pos m)) (kept_total g h n)
    ∙ ap (λ (z : ℤ). of_z w32 (total_of g +ℤ z *ℤ pos m)) (to_z-of_z f)
    ∙ ap (of_z w32) (ap (λ (z : ℤ). total_of g +ℤ z) (sym (total_rep m c)) ∙ sym (total_append g (replicate m c)))

-- and begins with one
pub flows_first : (c : ℤ) (m : ℕ) → SFits w16 c → flowed_of 0 (of_z w16 c) m ≡ total_word (replicate m c)
unfolding total_of
flows_first c m f = flows [] c m tt f (omega arith)
