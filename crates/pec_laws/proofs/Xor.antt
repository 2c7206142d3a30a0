-- Exclusive or is associative, and the bit step of the PEC is linear in it.
-- Assumes nothing.
use mathlib.Core.Path.{◌≡◌, refl, sym, ap, ap₂, ◌∙◌}
use Prim.Native.Nat.{ℕ, zero, suc, ◌+◌, ◌*◌, ◌/◌, ◌%◌, ◌<◌}
use native.Mathlib.Nat.{mod-lt, zero-lt-suc, not-suc-le-zero, le_of_suc-le-suc, add-zero}
use lib.Dec.{lit<}
use lib.Arith.{bin_ind}
use lib.Bits.{bit_xor, differ, xor_step, xor_shr, xor_mod, xor_block, xor_comm, xor_self, xor_zero_r}
use Rattle.pec.specs.Pec.{bit_step, byte_step}

pub by_bit : (P : ℕ → Type 0) → P 0 → P 1 → (x : ℕ) → x < 2 → P x
by_bit P p q zero h = p
by_bit P p q (suc zero) h = q
by_bit P p q (suc (suc x)) h = absurd (not-suc-le-zero (le_of_suc-le-suc (le_of_suc-le-suc h)))

odd : (a : ℕ) → a % 2 < 2
odd a = mod-lt a (zero-lt-suc 1)

bits_xor : (x y : ℕ) → x < 2 → y < 2 → bit_xor x y ≡ differ x y
bits_xor x y hx hy =
    by_bit (λ x. bit_xor x y ≡ differ x y) refl (by_bit (λ y. bit_xor 1 y ≡ differ 1 y) refl refl y hy) x hx

pub half_xor : (a b : ℕ) → bit_xor a b / 2 ≡ bit_xor (a / 2) (b / 2)
half_xor a b = xor_shr a b 1

pub odd_xor : (a b : ℕ) → bit_xor a b % 2 ≡ differ (a % 2) (b % 2)
odd_xor a b = xor_mod a b 1 ∙ bits_xor (a % 2) (b % 2) (odd a) (odd b)

differ_assoc : (x y z : ℕ) → x < 2 → y < 2 → z < 2 → differ (differ x y) z ≡ differ x (differ y z)
differ_assoc x y z hx hy hz =
    by_bit (λ x. differ (differ x y) z ≡ differ x (differ y z)) refl
    (by_bit (λ y. differ (differ 1 y) z ≡ differ 1 (differ y z)) refl
    (by_bit (λ z. differ (differ 1 1) z ≡ differ 1 (differ 1 z)) refl refl z hz) y hy) x hx

pub xor_assoc : (a b c : ℕ) → bit_xor (bit_xor a b) c ≡ bit_xor a (bit_xor b c)
xor_assoc a =
    bin_ind (λ (n : ℕ). (b c : ℕ) → bit_xor (bit_xor n b) c ≡ bit_xor n (bit_xor b c)) (λ b c. refl)
    (λ n ih b c.
    xor_step (bit_xor n b) c
    ∙ ap₂ (λ (x y : ℕ). bit_xor x (c / 2) * 2 + differ y (c % 2)) (half_xor n b) (odd_xor n b)
    ∙ ap₂ (λ (x y : ℕ). x * 2 + y) (ih (b / 2) (c / 2)) (differ_assoc (n % 2) (b % 2) (c % 2) (odd n) (odd b) (odd c))
    ∙ sym (ap₂ (λ (x y : ℕ). bit_xor (n / 2) x * 2 + differ (n % 2) y) (half_xor b c) (odd_xor b c))
    ∙ sym (xor_step n (bit_xor b c))) a

pub xor_swap : (a b c d : ℕ) → bit_xor (bit_xor a b) (bit_xor c d) ≡ bit_xor (bit_xor a c) (bit_xor b d)
xor_swap a b c d =
    xor_assoc a b (bit_xor c d)
    ∙ ap (bit_xor a) (sym (xor_assoc b c d) ∙ ap (λ (x : ℕ). bit_xor x d) (xor_comm b c) ∙ xor_assoc c b d)
    ∙ sym (xor_assoc a c (bit_xor b d))

-- a number is its own inverse
pub xor_cancel : (a b : ℕ) → bit_xor (bit_xor a b) b ≡ a
xor_cancel a b = xor_assoc a b b ∙ ap (bit_xor a) (xor_self b) ∙ xor_zero_r a

pub xor_none : (a b : ℕ) → bit_xor a b ≡ 0 → a ≡ b
xor_none a b e = sym (xor_cancel a b) ∙ ap (λ (x : ℕ). bit_xor x b) e

double : (a b : ℕ) → bit_xor a b * 2 ≡ bit_xor (a * 2) (b * 2)
double a b =
    sym (ap₂ bit_xor (sym (add-zero (a * 2))) (sym (add-zero (b * 2))) ∙ xor_block 1 a b 0 0 (lit< tt) (lit< tt) ∙ add-zero (bit_xor a b * 2))

sevens : (x y : ℕ) → x < 2 → y < 2 → bit_xor x y * 7 ≡ bit_xor (x * 7) (y * 7)
sevens x y hx hy =
    by_bit (λ x. bit_xor x y * 7 ≡ bit_xor (x * 7) (y * 7)) refl
    (by_bit (λ y. bit_xor 1 y * 7 ≡ bit_xor (1 * 7) (y * 7)) refl refl y hy) x hx

pub bit_step_xor : (x y : ℕ) → bit_step (bit_xor x y) ≡ bit_xor (bit_step x) (bit_step y)
unfolding bit_step
bit_step_xor x y =
    ap₂ bit_xor (ap (λ (n : ℕ). n % 256) (double x y) ∙ xor_mod (x * 2) (y * 2) 8)
    (ap (λ (n : ℕ). n % 2 * 7) (xor_shr x y 7) ∙ ap (λ (n : ℕ). n * 7) (xor_mod (x / 128) (y / 128) 1)
    ∙ sevens (x / 128 % 2) (y / 128 % 2) (odd (x / 128)) (odd (y / 128)))
    ∙ xor_swap (x * 2 % 256) (y * 2 % 256) (x / 128 % 2 * 7) (y / 128 % 2 * 7)

pub byte_step_xor : (x y : ℕ) → byte_step (bit_xor x y) ≡ bit_xor (byte_step x) (byte_step y)
unfolding byte_step
byte_step_xor x y = simp bit_step_xor
