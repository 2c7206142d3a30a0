-- The difference of two messages: its PEC, its bits, and how many of them are set.
-- Assumes nothing.
use mathlib.Core.Path.{◌≡◌, refl, sym, ap, ap₂, ◌∙◌}
use mathlib.Core.Bool.{Bool, true, false, xor, ◌||◌, not}
use mathlib.Core.List.{List, [], ◌∷◌}
use Prim.Native.Nat.{ℕ, zero, suc, ◌+◌, ◌*◌, ◌/◌, ◌%◌, ◌^◌, ◌<◌}
use native.Mathlib.Nat.{mod-lt, zero-lt-suc}
use native.Mathlib.Omega.{arith}
use lib.Dec.{eqb, eqb→eq}
use lib.ListN.{length}
use lib.Bits.{bit_xor, xor_lt, xor_shr, xor_mod, xor_self}
use lib.Count.{ones}
use Rattle.pec.specs.Pec.{byte_step, pec_from, pec_of}
use Rattle.pec.specs.Messages.{bits_apart}
use Rattle.rooms.specs.Rooms.{Bytes}
use Rattle.pec_laws.specs.Places.{xor_all, weight_set, bits_of, bit_at}
use Rattle.pec_laws.proofs.Xor.{by_bit, xor_none, xor_swap, byte_step_xor}
use Rattle.pec_laws.proofs.Every.{each, or_at, eq→eqb}
use Rattle.pec_laws.proofs.Bits.{weight, byte, weight_append, ones_byte}

linear : (s t : ℕ) (xs ys : List ℕ) → length xs ≡ length ys → pec_from (bit_xor s t) (xor_all xs ys) ≡ bit_xor (pec_from s xs) (pec_from t ys)
unfolding pec_from xor_all
linear s t [] [] l = refl
linear s t [] (y ∷ ys) l = absurd (omega arith)
linear s t (x ∷ xs) [] l = absurd (omega arith)
linear s t (x ∷ xs) (y ∷ ys) l =
    ap (λ (r : ℕ). pec_from r (xor_all xs ys)) (ap byte_step (xor_swap s t x y) ∙ byte_step_xor (bit_xor s x) (bit_xor t y))
    ∙ linear (byte_step (bit_xor s x)) (byte_step (bit_xor t y)) xs ys (omega arith)

pub pec_xor : (xs ys : List ℕ) → length xs ≡ length ys → pec_of (xor_all xs ys) ≡ bit_xor (pec_of xs) (pec_of ys)
unfolding pec_of
pec_xor xs ys l = linear 0 0 xs ys l

pub xor_bytes : (xs ys : List ℕ) → Bytes xs → Bytes ys → Bytes (xor_all xs ys)
unfolding xor_all
xor_bytes [] ys h k = tt
xor_bytes (x ∷ xs) [] h k = tt
xor_bytes (x ∷ xs) (y ∷ ys) h k = (xor_lt 8 x y h.0 k.0, xor_bytes xs ys h.1 k.1)

pub apart_weight : (xs ys : List ℕ) → Bytes xs → Bytes ys → bits_apart xs ys ≡ weight (bits_of (xor_all xs ys))
unfolding xor_all bits_apart bits_of
apart_weight [] ys h k = refl
apart_weight (x ∷ xs) [] h k = refl
apart_weight (x ∷ xs) (y ∷ ys) h k =
    ap₂ (λ (m n : ℕ). m + n) (ones_byte (bit_xor x y) (xor_lt 8 x y h.0 k.0)) (apart_weight xs ys h.1 k.1)
    ∙ sym (weight_append (byte (bit_xor x y)) (bits_of (xor_all xs ys)))

pub bits_length : (xs : List ℕ) → length (bits_of xs) ≡ length xs * 8
unfolding bits_of
bits_length [] = refl
bits_length (x ∷ xs) = omega (arith, bits_length xs)

pub xor_length : (xs ys : List ℕ) → length xs ≡ length ys → length (xor_all xs ys) ≡ length xs
unfolding xor_all
xor_length [] ys l = refl
xor_length (x ∷ xs) [] l = absurd (omega arith)
xor_length (x ∷ xs) (y ∷ ys) l = ap suc (xor_length xs ys (omega arith))

ones_none : (x : ℕ) → x < 256 → ones x ≡ 0 → x ≡ 0
unfolding ones
ones_none x h e =
    eqb→eq x 0 (or_at (eqb (ones x) 0) (eqb x 0) (each (λ y. not (eqb (ones y) 0) || eqb y 0) 256 tt x h) (eq→eqb (ones x) 0 e))

pub none_apart : (xs ys : List ℕ) → Bytes xs → Bytes ys → length xs ≡ length ys → bits_apart xs ys ≡ 0 → xs ≡ ys
unfolding bits_apart
none_apart [] [] h k l e = refl
none_apart [] (y ∷ ys) h k l e = absurd (omega arith)
none_apart (x ∷ xs) [] h k l e = absurd (omega arith)
none_apart (x ∷ xs) (y ∷ ys) h k l e =
    ap₂ (λ (z : ℕ) (zs : List ℕ). z ∷ zs) (xor_none x y (ones_none (bit_xor x y) (xor_lt 8 x y h.0 k.0) (omega arith)))
    (none_apart xs ys h.1 k.1 (omega arith) (omega arith))

weight_xor : (k x y : ℕ) → weight_set (2 ^ k) (bit_xor x y) ≡ xor (weight_set (2 ^ k) x) (weight_set (2 ^ k) y)
unfolding xor
weight_xor k x y =
    ap (λ (z : ℕ). eqb (z % 2) 1) (xor_shr x y k) ∙ ap (λ (z : ℕ). eqb z 1) (xor_mod (x / 2 ^ k) (y / 2 ^ k) 1)
    ∙ go (x / 2 ^ k % 2) (y / 2 ^ k % 2) (mod-lt (x / 2 ^ k) (zero-lt-suc 1)) (mod-lt (y / 2 ^ k) (zero-lt-suc 1))
  where
    go : (u v : ℕ) → u < 2 → v < 2 → eqb (bit_xor u v) 1 ≡ xor (eqb u 1) (eqb v 1)
    go u v hu hv =
        by_bit (λ u. eqb (bit_xor u v) 1 ≡ xor (eqb u 1) (eqb v 1))
        (by_bit (λ v. eqb (bit_xor 0 v) 1 ≡ xor (eqb 0 1) (eqb v 1)) refl refl v hv)
        (by_bit (λ v. eqb (bit_xor 1 v) 1 ≡ xor (eqb 1 1) (eqb v 1)) refl refl v hv) u hu

pub at_xor : (xs ys : List ℕ) (i : ℕ) → length xs ≡ length ys → bit_at (xor_all xs ys) i ≡ xor (bit_at xs i) (bit_at ys i)
unfolding bits_of xor_all xor
at_xor [] [] i l = refl
at_xor [] (y ∷ ys) i l = absurd (omega arith)
at_xor (x ∷ xs) [] i l = absurd (omega arith)
at_xor (x ∷ xs) (y ∷ ys) zero l = weight_xor 7 x y
at_xor (x ∷ xs) (y ∷ ys) (suc zero) l = weight_xor 6 x y
at_xor (x ∷ xs) (y ∷ ys) (suc (suc zero)) l = weight_xor 5 x y
at_xor (x ∷ xs) (y ∷ ys) (suc (suc (suc zero))) l = weight_xor 4 x y
at_xor (x ∷ xs) (y ∷ ys) (suc (suc (suc (suc zero)))) l = weight_xor 3 x y
at_xor (x ∷ xs) (y ∷ ys) (suc (suc (suc (suc (suc zero))))) l = weight_xor 2 x y
at_xor (x ∷ xs) (y ∷ ys) (suc (suc (suc (suc (suc (suc zero)))))) l = weight_xor 1 x y
at_xor (x ∷ xs) (y ∷ ys) (suc (suc (suc (suc (suc (suc (suc zero))))))) l = weight_xor 0 x y
at_xor (x ∷ xs) (y ∷ ys) (suc (suc (suc (suc (suc (suc (suc (suc i)))))))) l = at_xor xs ys i (omega arith)

pub apart_true : (a b : Bool) → (a ≡ b → ⊥) → xor a b ≡ true
unfolding xor
apart_true true true n = absurd (n refl)
apart_true true false n = refl
apart_true false true n = refl
apart_true false false n = absurd (n refl)

pub true_apart : (a b : Bool) → xor a b ≡ true → a ≡ b → ⊥
unfolding xor
true_apart true true t e = let z : ◌≡◌ {A = ℕ} 0 1 = cc in omega arith
true_apart true false t e = let z : ◌≡◌ {A = ℕ} 0 1 = cc in omega arith
true_apart false true t e = let z : ◌≡◌ {A = ℕ} 0 1 = cc in omega arith
true_apart false false t e = let z : ◌≡◌ {A = ℕ} 0 1 = cc in omega arith

-- a message differs from itself in no bit
pub same_none : (zs : List ℕ) → bits_apart zs zs ≡ 0
unfolding bits_apart ones
same_none [] = refl
same_none (z ∷ zs) = ap₂ (λ (a b : ℕ). a + b) (ap ones (xor_self z)) (same_none zs)
