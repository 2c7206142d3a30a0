-- Which faults the PEC catches: the theorems that `specs/Faults.antt` states.
-- Assumes nothing.
use mathlib.Core.Path.{◌≡◌, refl, sym, ap, ap₂, ◌∙◌, subst}
use mathlib.Core.Bool.{Bool, true, false, ◌&&◌}
use mathlib.Core.List.{List, [], ◌∷◌}
use mathlib.Core.Logic.{◌⊎◌, inl, inr}
use Prim.Native.Nat.{ℕ, zero, suc, ◌+◌, ◌-◌, ◌*◌, ◌%◌, ◌≤◌, ◌<◌}
use native.Mathlib.Nat.{eq-or-lt_of_le}
use native.Mathlib.Omega.{arith}
use lib.Dec.{T, ltb, lit<, lit≤}
use lib.ListN.{length, get_or}
use lib.Bits.{bit_xor}
use lib.Count.{ones}
use Rattle.pec.specs.Pec.{bit_step, byte_step, pec_from, pec_of}
use Rattle.pec.specs.Messages.{ends_in_pec, Right, bits_apart}
use Rattle.rooms.specs.Rooms.{Bytes}
use Rattle.pec_laws.specs.Places.{xor_all, bits_of, bit_at, Apart}
use Rattle.pec_laws.specs.Faults.{Rights, Linear, FourBits, EvenBits, NoBurst, TwoBits, TwoBitsTo37, Caught, Misheard, FourIsSharp, TwoApart, FifteenIsSharp, EightIsSharp}
use Rattle.pec_laws.proofs.Every.{and_left, and_right}
use Rattle.pec_laws.proofs.Bits.{crc, weight, pec_bits}
use Rattle.pec_laws.proofs.Words.{even, two_bits, in_word, four, burst}
use Rattle.pec_laws.proofs.Difference.{pec_xor, xor_bytes, apart_weight, bits_length, xor_length, none_apart, at_xor, apart_true, true_apart, same_none}
use Rattle.pec_laws.proofs.Zero.{right_is_none, one_byte}

-- 1
pub linear : Linear
linear = pec_xor

-- 2 is `Zero.right-is-none`

-- the bits of the difference of two messages
abbrev word : List ℕ → List ℕ → List Bool
word xs ys = bits_of (xor_all xs ys)

long : (xs ys : List ℕ) → Rights xs ys → length (word xs ys) ≡ length xs * 8
long xs ys ((hx, hy, l), rx, ry, d) = bits_length (xor_all xs ys) ∙ ap (λ (n : ℕ). n * 8) (xor_length xs ys l)

counted : (xs ys : List ℕ) → Rights xs ys → bits_apart xs ys ≡ weight (word xs ys)
counted xs ys ((hx, hy, l), rx, ry, d) = apart_weight xs ys hx hy

none : (xs ys : List ℕ) → Rights xs ys → crc 0 (word xs ys) ≡ 0
unfolding pec_of
none xs ys ((hx, hy, l), rx, ry, d) =
    sym (pec_bits 0 (xor_all xs ys) (xor_bytes xs ys hx hy)) ∙ pec_xor xs ys l
    ∙ ap₂ bit_xor ((right_is_none xs hx rx.0).0 rx) ((right_is_none ys hy ry.0).0 ry)

some : (xs ys : List ℕ) → Rights xs ys → weight (word xs ys) ≡ 0 → ⊥
some xs ys ((hx, hy, l), rx, ry, d) w = d (none_apart xs ys hx hy l (apart_weight xs ys hx hy ∙ w))

-- a place where the messages differ is a set bit of the word
set_at : (xs ys : List ℕ) → Rights xs ys → (i : ℕ) → Apart xs ys i → get_or (word xs ys) i false ≡ true
set_at xs ys ((hx, hy, l), rx, ry, d) i p = at_xor xs ys i l ∙ apart_true (bit_at xs i) (bit_at ys i) p

apart_at : (xs ys : List ℕ) → Rights xs ys → (i : ℕ) → get_or (word xs ys) i false ≡ true → Apart xs ys i
apart_at xs ys ((hx, hy, l), rx, ry, d) i p = true_apart (bit_at xs i) (bit_at ys i) (sym (at_xor xs ys i l) ∙ p)

-- 3
pub four_bits : FourBits
four_bits xs ys r s = rw (counted xs ys r) (four (word xs ys) (omega (arith, long xs ys r)) (none xs ys r) (some xs ys r))

-- 4
pub even_bits : EvenBits
even_bits xs ys r = rw (counted xs ys r) (even (word xs ys) (none xs ys r))

pub no_burst : NoBurst
no_burst xs ys r k n = some xs ys r (burst (word xs ys) k within (none xs ys r))
  where
    within : (i : ℕ) → get_or (word xs ys) i false ≡ true → (k ≤ i) × (i < k + 8)
    within i p = let m = n i (apart_at xs ys r i p) in (omega (arith, m.0), omega (arith, m.1))

pub two_bits_apart : TwoBits
two_bits_apart xs ys r w i j h p q =
    two_bits (word xs ys) i j (sym (counted xs ys r) ∙ w) h (set_at xs ys r i p) (set_at xs ys r j q) (none xs ys r)

pub two_bits_to_37 : TwoBitsTo37
two_bits_to_37 xs ys r s w i j h p q = go (eq-or-lt_of_le {n = 127} {m = j - i} (omega (arith, times)))
  where
    times : (j - i) % 127 ≡ 0
    times = two_bits_apart xs ys r w i j h p q

    go : (127 ≡ j - i) ⊎ (127 < j - i) → (j - i ≡ 127) ⊎ (j - i ≡ 254)
    go (inl e) = inl (sym e)
    go (inr b) = inr (omega (arith, times, in_word (word xs ys) j (set_at xs ys r j q), long xs ys r))

-- 5
pub caught : Caught
caught xs ys p rx s n m ry = omega (arith, four_bits xs ys (p, rx, ry, differs) s)
  where
    differs : xs ≡ ys → ⊥
    differs e = omega (arith, ap (bits_apart xs) e, same_none xs)

pub misheard : Misheard
misheard us vs x y bx by rx d ry = d (one_byte us vs x y bx by ((right_is_none _ bx rx.0).0 rx ∙ sym ((right_is_none _ by ry.0).0 ry)))

-- 6
unlike : (x y : ℕ) (xs ys : List ℕ) → (x ≡ y → ⊥) → x ∷ xs ≡ y ∷ ys → ⊥
unlike x y xs ys n e = n (ap (λ (zs : List ℕ). get_or zs 0 0) e)

below_256 : List ℕ → Bool
below_256 [] = true
below_256 (x ∷ xs) = ltb x 256 && below_256 xs

bytes : (xs : List ℕ) → T (below_256 xs) → Bytes xs
unfolding below_256
bytes [] t = tt
bytes (x ∷ xs) t = (lit< (and_left (ltb x 256) (below_256 xs) t), bytes xs (and_right (ltb x 256) (below_256 xs) t))

-- the messages 00 00 and 01 07
small : Rights (0 ∷ 0 ∷ []) (1 ∷ 7 ∷ [])
unfolding ends_in_pec pec_of pec_from byte_step bit_step below_256
small = ((bytes (0 ∷ 0 ∷ []) tt, bytes (1 ∷ 7 ∷ []) tt, refl), (lit< tt, refl), (lit< tt, refl), unlike 0 1 _ _ (λ e. omega arith))

pub four_is_sharp : FourIsSharp
unfolding bits_apart ones
four_is_sharp = (_, _, small, lit≤ tt, refl)

-- 16 bytes of 0, and with their first and their last bit set
zeros : List ℕ
zeros = 0 ∷ 0 ∷ 0 ∷ 0 ∷ 0 ∷ 0 ∷ 0 ∷ 0 ∷ 0 ∷ 0 ∷ 0 ∷ 0 ∷ 0 ∷ 0 ∷ 0 ∷ 0 ∷ []

ends : List ℕ
ends = 128 ∷ 0 ∷ 0 ∷ 0 ∷ 0 ∷ 0 ∷ 0 ∷ 0 ∷ 0 ∷ 0 ∷ 0 ∷ 0 ∷ 0 ∷ 0 ∷ 0 ∷ 1 ∷ []

two_apart_16 : TwoApart 16
unfolding bits_apart ones ends_in_pec pec_of pec_from byte_step bit_step zeros ends below_256
two_apart_16 =
    (zeros, ends, ((bytes zeros tt, bytes ends tt, refl), (lit< tt, refl), (lit< tt, refl), unlike 0 128 _ _ (λ e. omega arith)), refl, refl)

-- a right message with a byte 00 before it is right
zero_before : (xs : List ℕ) → Bytes xs → Right xs → Right (0 ∷ xs)
unfolding pec_of pec_from byte_step bit_step
zero_before xs h r = (right_is_none (0 ∷ xs) (lit< tt, h) (omega arith)).1 ((right_is_none xs h r.0).0 r)

one_longer : (n : ℕ) → TwoApart n → TwoApart (suc n)
unfolding bits_apart ones
one_longer n (xs, ys, ((hx, hy, l), rx, ry, d), ln, two) =
    (0 ∷ xs, 0 ∷ ys, (((lit< tt, hx), (lit< tt, hy), ap suc l), zero_before xs hx rx, zero_before ys hy ry, λ e. d (cc)), ap suc ln, ap (λ (m : ℕ). 0 + m) two)

pub fifteen_is_sharp : FifteenIsSharp
fifteen_is_sharp n h = let e : n - 16 + 16 ≡ n = omega arith in subst TwoApart e (longer (n - 16))
  where
    longer : (k : ℕ) → TwoApart (k + 16)
    longer zero = two_apart_16
    longer (suc k) = subst TwoApart (omega arith) (one_longer (k + 16) (longer k))

-- they agree at the places 0 to 6
early : (i : ℕ) → i < 7 → bit_at (0 ∷ 0 ∷ []) i ≡ bit_at (1 ∷ 7 ∷ []) i
unfolding bits_of
early zero h = refl
early (suc zero) h = refl
early (suc (suc zero)) h = refl
early (suc (suc (suc zero))) h = refl
early (suc (suc (suc (suc zero)))) h = refl
early (suc (suc (suc (suc (suc zero))))) h = refl
early (suc (suc (suc (suc (suc (suc zero)))))) h = refl
early (suc (suc (suc (suc (suc (suc (suc i))))))) h = absurd (omega arith)

nine : (i : ℕ) → Apart (0 ∷ 0 ∷ []) (1 ∷ 7 ∷ []) i → (7 ≤ i) × (i < 7 + 9)
nine i p = (let late : i < 7 → ⊥ = λ h. p (early i h) in omega (arith, late), omega (arith, in_word (word _ _) i (set_at _ _ small i p), long _ _ small))

pub eight_is_sharp : EightIsSharp
eight_is_sharp = (_, _, small, 7, nine)
