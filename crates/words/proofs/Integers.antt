-- A signed word's direction and size are those of the integer it stands for.
-- Assumes nothing.
use Prim.Native.Nat.{ℕ, suc, ◌-◌, ◌<◌, ◌≤◌}
use mathlib.Core.Bool.{Bool, ◌&&◌, and-true, and-false}
use mathlib.Core.Path.{◌≡◌, ap, ◌∙◌, sym}
use native.Mathlib.Omega.{arith}
use native.Mathlib.Decide.{dec_lt}
use borrow.Author.Tests.{lt-ltb, le-ltb, le-leb, lt-leb}
use lib.Dec.{ltb}
use lib.IntN.{ℤ, pos, negsuc, nat_abs}
use lib.Signed.{lt_z}
use mir.Syntax.{w16}
use mir.Val.{to_z}
use Rattle.words.specs.Words.{size_of, AboveTrue, BelowTrue, SizeTrue}

by_dec : {P : Type 0} (x y : ℕ) → Dec (x < y) → (x < y → P) → (y ≤ x → P) → P
by_dec x y (yes h) f g = f h
by_dec x y (no n) f g = g (omega (arith, n))

-- two numbers, one case or the other
pub split : {P : Type 0} (x y : ℕ) → (x < y → P) → (y ≤ x → P) → P
split x y f g = by_dec x y (dec_lt x y) f g

-- a word below 32,768 stands for itself
pub low : (w : ℕ) → w < 32768 → to_z w16 w ≡ pos w
low w h = simp (lt-ltb w 32768 h)

-- any other stands for 65,536 less
pub high : (w : ℕ) → 32768 ≤ w → to_z w16 w ≡ negsuc (65536 - suc w)
high w h = simp (le-ltb w 32768 h)

-- above 0
pub above_is : AboveTrue
above_is w =
    split w 32768 (λ h. ap (λ (b : Bool). ltb 0 w && b) (lt-ltb w 32768 h) ∙ and-true (ltb 0 w) ∙ ap (lt_z (pos 0)) (sym (low w h)))
    (λ h. ap (λ (b : Bool). ltb 0 w && b) (le-ltb w 32768 h) ∙ and-false (ltb 0 w) ∙ ap (lt_z (pos 0)) (sym (high w h)))

-- below 0
pub below_is : BelowTrue
below_is w =
    split w 32768 (λ h. lt-leb 32768 w h ∙ sym (le-ltb w 0 (omega arith)) ∙ ap (λ (z : ℤ). lt_z z (pos 0)) (sym (low w h)))
    (λ h. le-leb 32768 w h ∙ ap (λ (z : ℤ). lt_z z (pos 0)) (sym (high w h)))

size_low : (w : ℕ) → w < 32768 → size_of w ≡ w
size_low w h = simp (lt-leb 32768 w h)

size_high : (w : ℕ) → 32768 ≤ w → size_of w ≡ 65536 - w
size_high w h = simp (le-leb 32768 w h)

-- the size of a word
pub size_is : SizeTrue
size_is w l =
    split w 32768 (λ h. size_low w h ∙ ap nat_abs (sym (low w h)))
    (λ h. let e : 65536 - w ≡ suc (65536 - suc w) = omega arith in size_high w h ∙ e ∙ ap nat_abs (sym (high w h)))
