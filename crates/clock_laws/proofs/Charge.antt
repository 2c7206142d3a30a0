-- A sample adds current × elapsed to the charge, in integers, held between 0 and full, and draws its magnitude.
-- Assumes nothing.
use Prim.Native.Nat.{ℕ, zero, suc, ◌+◌, ◌-◌, ◌*◌, ◌<◌, ◌≤◌, min}
use mathlib.Core.Bool.{Bool, cond}
use mathlib.Core.Path.{◌≡◌, refl, ap, ◌∙◌, sym}
use native.Mathlib.Omega.{arith}
use borrow.Author.Tests.{lt-ltb, le-ltb, le-leb, lt-leb}
use lib.IntN.{ℤ, pos, nat_abs, neg_ℤ, sub_ℕ, ◌+ℤ◌, ◌*ℤ◌}
use lib.Signed.{lt_z}
use mir.Syntax.{w16}
use mir.Val.{to_z, of_z}
use mir.ValLaws.{to_z-of_z}
use Rattle.tank.specs.Charge.{charge_after}
use Rattle.clock_laws.specs.Promises.{ChargeTrue, DrawnTrue}
use Rattle.clock_laws.specs.Steps.{held_to}
use Rattle.pack.proofs.Kept.{word_fits}
use Rattle.cycles.specs.Cycles.{drawn_by}
use Rattle.words.proofs.Integers.{split, below_is, size_is}
use Rattle.words.specs.Words.{size_of}
use Rattle.capacity.specs.Capacity.{milliamp_ms}

-- a number of 0 or above is held to the top
held_up : (top n : ℕ) → pos (min top n) ≡ held_to (pos top) (pos n)
held_up top n =
    split top n (λ h. let e : min top n ≡ top = omega arith in ap pos e ∙ sym (simp (lt-ltb top n h, le-ltb n 0 (omega arith))))
    (λ h. let e : min top n ≡ n = omega arith in ap pos e ∙ sym (simp (le-ltb top n h, le-ltb n 0 (omega arith))))

-- a difference up to the top is held at 0
held_down : (top c m : ℕ) → c ≤ top → pos (c - m) ≡ held_to (pos top) (sub_ℕ c m)
held_down top c m l =
    split c m (λ h. let e : c - m ≡ 0 = omega arith in ap pos e ∙ sym (simp (lt-ltb c m h)))
    (λ h. sym (simp (le-ltb c m h, le-ltb top (c - m) (omega arith), le-ltb (c - m) 0 (omega arith))))

minus : (c m : ℕ) → sub_ℕ c m ≡ pos c +ℤ neg_ℤ (pos m)
minus c zero = simp (le-ltb c 0 (omega arith)) (ap pos (omega arith))
minus c (suc m) = refl

-- by the word of the current
charge_step : (charge full word elapsed : ℕ) → word < 65536 → charge ≤ milliamp_ms full
    → pos (charge_after charge full word elapsed) ≡ held_to (pos (milliamp_ms full)) (pos charge +ℤ to_z w16 word *ℤ pos elapsed)
charge_step charge full word elapsed w l =
    split word 32768
    (λ h.
    simp (lt-leb 32768 word h, lt-ltb word 32768 h) (held_up (milliamp_ms full) (charge + word * elapsed)))
    (λ h.
    let size : 65536 - word ≡ suc (65536 - suc word) = omega arith in
    simp (le-leb 32768 word h, le-ltb word 32768 h)
    (held_down (milliamp_ms full) charge ((65536 - word) * elapsed) l
    ∙ ap (held_to (pos (milliamp_ms full))) (minus charge ((65536 - word) * elapsed) ∙ ap (λ (k : ℕ). pos charge +ℤ neg_ℤ (pos (k * elapsed))) size)))

-- a sample adds current × elapsed, held between 0 and full
pub charge_true : ChargeTrue
charge_true charge full elapsed x f l =
    charge_step charge full (of_z w16 x.current) elapsed (word_fits x.current f) l
    ∙ ap (λ (z : ℤ). held_to (pos (milliamp_ms full)) (pos charge +ℤ z *ℤ pos elapsed)) (to_z-of_z w16 x.current f)

-- by the word of the current
drawn_step : (word elapsed : ℕ) → word < 65536
    → drawn_by word elapsed ≡ cond (lt_z (to_z w16 word) (pos 0)) (nat_abs (to_z w16 word) * elapsed) 0
drawn_step word elapsed w =
    ap (λ (b : Bool). cond b (size_of word * elapsed) 0) (below_is word)
    ∙ ap (λ (n : ℕ). cond (lt_z (to_z w16 word) (pos 0)) (n * elapsed) 0) (size_is word w)

-- a sample with current below 0 draws its magnitude × elapsed
pub drawn_true : DrawnTrue
drawn_true elapsed x f =
    drawn_step (of_z w16 x.current) elapsed (word_fits x.current f)
    ∙ ap (λ (z : ℤ). cond (lt_z z (pos 0)) (nat_abs z * elapsed) 0) (to_z-of_z w16 x.current f)
