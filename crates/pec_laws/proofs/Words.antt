-- What a word of bits whose PEC is 0 looks like: an even number of bits is set; two set bits stand a multiple of 127 places apart; and the
-- set bits never lie all within eight places.
-- Assumes nothing.
use mathlib.Core.Path.{◌≡◌, refl, ap}
use mathlib.Core.Bool.{Bool, true, false, ◌&&◌, not}
use mathlib.Core.List.{List, [], ◌∷◌}
use Prim.Native.Nat.{ℕ, zero, suc, ◌+◌, ◌-◌, ◌%◌, ◌≤◌, ◌<◌, suc-le-suc}
use native.Mathlib.Nat.{zero-lt-suc, not-suc-le-zero, le_of_suc-le-suc}
use native.Mathlib.Omega.{arith}
use lib.Dec.{T, T_not, eqb, lit<}
use lib.ListN.{length, get_or}
use lib.Bits.{bit_xor, xor_lt}
use lib.Count.{ones}
use Rattle.pec.specs.Pec.{bit_step}
use Rattle.pec.proofs.Bounds.{bit_step_lt}
use Rattle.pec_laws.proofs.Xor.{xor_none}
use Rattle.pec_laws.proofs.Every.{and_left, and_right, same_each, eq→eqb}
use Rattle.pec_laws.proofs.Orbit.{run, bit_step_none, meets}
use Rattle.pec_laws.proofs.Bits.{push, push_lt, crc, weight}

-- ---- an even number of bits

turns : Bool → ℕ → ℕ
turns true n = (n + 1) % 2
turns false n = n % 2

push_odd : (b : Bool) (s : ℕ) → s < 256 → ones (push b s) % 2 ≡ turns b (ones s)
unfolding bit_step ones turns
push_odd true = same_each (λ s. ones (push true s) % 2) (λ s. (ones s + 1) % 2) 256 tt
push_odd false = same_each (λ s. ones (push false s) % 2) (λ s. ones s % 2) 256 tt

odd : (s : ℕ) (bs : List Bool) → s < 256 → ones (crc s bs) % 2 ≡ (ones s + weight bs) % 2
unfolding turns
odd s [] h = omega arith
odd s (true ∷ bs) h = omega (arith, odd (push true s) bs (push_lt true s), push_odd true s h)
odd s (false ∷ bs) h = omega (arith, odd (push false s) bs (push_lt false s), push_odd false s h)

pub even : (bs : List Bool) → crc 0 bs ≡ 0 → weight bs % 2 ≡ 0
unfolding ones
even bs e = omega (arith, odd 0 bs (lit< tt), ap ones e)

-- ---- two bits

-- from the last set bit on, only 0 comes to 0
still : (s : ℕ) (bs : List Bool) → s < 256 → weight bs ≡ 0 → crc s bs ≡ 0 → s ≡ 0
still s [] h w e = e
still s (true ∷ bs) h w e = absurd (omega arith)
still s (false ∷ bs) h w e = bit_step_none s h (still (bit_step s) bs (bit_step_lt s) w e)

no_bit : (bs : List Bool) (j : ℕ) → weight bs ≡ 0 → get_or bs j false ≡ true → ⊥
no_bit [] j w p = let z : ◌≡◌ {A = ℕ} 0 1 = cc in omega arith
no_bit (true ∷ bs) j w p = omega arith
no_bit (false ∷ bs) zero w p = let z : ◌≡◌ {A = ℕ} 0 1 = cc in omega arith
no_bit (false ∷ bs) (suc j) w p = no_bit bs j w p

one_bit : (bs : List Bool) (i j : ℕ) → weight bs ≡ 1 → i < j → get_or bs i false ≡ true → get_or bs j false ≡ true → ⊥
one_bit [] i j w h p q = omega arith
one_bit (b ∷ bs) i zero w h p q = omega arith
one_bit (true ∷ bs) zero (suc j) w h p q = no_bit bs j (omega arith) q
one_bit (true ∷ bs) (suc i) (suc j) w h p q = no_bit bs j (omega arith) q
one_bit (false ∷ bs) zero (suc j) w h p q = let z : ◌≡◌ {A = ℕ} 0 1 = cc in omega arith
one_bit (false ∷ bs) (suc i) (suc j) w h p q = one_bit bs i j w (le_of_suc-le-suc h) p q

-- the one set bit meets 128
second : (s : ℕ) (bs : List Bool) (j : ℕ) → s < 256 → weight bs ≡ 1 → get_or bs j false ≡ true → crc s bs ≡ 0 → run j s ≡ 128
second s [] j h w p e = absurd (omega arith)
second s (true ∷ bs) zero h w p e =
    xor_none s 128
    (bit_step_none (bit_xor s 128) (xor_lt 8 s 128 h (lit< tt)) (still (push true s) bs (push_lt true s) (omega arith) e))
second s (true ∷ bs) (suc j) h w p e = absurd (no_bit bs j (omega arith) p)
second s (false ∷ bs) zero h w p e = absurd (let z : ◌≡◌ {A = ℕ} 0 1 = cc in omega arith)
second s (false ∷ bs) (suc j) h w p e = second (bit_step s) bs j (bit_step_lt s) w p e

first : (bs : List Bool) (i j : ℕ) → weight bs ≡ 2 → i < j → get_or bs i false ≡ true → get_or bs j false ≡ true → crc 0 bs ≡ 0
    → (m : ℕ) × (j ≡ i + suc m) × (run m 7 ≡ 128)
unfolding bit_step
first [] i j w h p q e = absurd (omega arith)
first (b ∷ bs) i zero w h p q e = absurd (not-suc-le-zero h)
first (true ∷ bs) zero (suc j) w h p q e = (j, omega arith, second 7 bs j (lit< tt) (omega arith) q e)
first (true ∷ bs) (suc i) (suc j) w h p q e = absurd (one_bit bs i j (omega arith) (le_of_suc-le-suc h) p q)
first (false ∷ bs) zero (suc j) w h p q e = absurd (let z : ◌≡◌ {A = ℕ} 0 1 = cc in omega arith)
first (false ∷ bs) (suc i) (suc j) w h p q e =
    let (m, d, r) = first bs i j w (le_of_suc-le-suc h) p q e in
    (m, omega arith, r)

pub in_word : (bs : List Bool) (j : ℕ) → get_or bs j false ≡ true → j < length bs
in_word [] j p = absurd (let z : ◌≡◌ {A = ℕ} 0 1 = cc in omega arith)
in_word (b ∷ bs) zero p = zero-lt-suc (length bs)
in_word (b ∷ bs) (suc j) p = suc-le-suc (in_word bs j p)

-- two set bits stand a multiple of 127 apart
pub two_bits : (bs : List Bool) (i j : ℕ) → weight bs ≡ 2 → i < j → get_or bs i false ≡ true → get_or bs j false ≡ true → crc 0 bs ≡ 0 → (j - i) % 127 ≡ 0
two_bits bs i j w h p q e = let (m, d, r) = first bs i j w h p q e in omega (arith, meets m r)

-- there are two such places
one_place : (bs : List Bool) → weight bs ≡ 1 → (j : ℕ) × (get_or bs j false ≡ true)
one_place [] w = absurd (omega arith)
one_place (true ∷ bs) w = (zero, refl)
one_place (false ∷ bs) w = let (j, p) = one_place bs w in (suc j, p)

two_places : (bs : List Bool) → weight bs ≡ 2 → (i : ℕ) × (j : ℕ) × (i < j) × (get_or bs i false ≡ true) × (get_or bs j false ≡ true)
two_places [] w = absurd (omega arith)
two_places (true ∷ bs) w = let (j, p) = one_place bs (omega arith) in (zero, suc j, zero-lt-suc j, refl, p)
two_places (false ∷ bs) w = let (i, j, h, p, q) = two_places bs w in (suc i, suc j, suc-le-suc h, p, q)

pub not_two : (bs : List Bool) → length bs ≤ 127 → crc 0 bs ≡ 0 → weight bs ≡ 2 → ⊥
not_two bs l e w = go (two_places bs w)
  where
    go : (i : ℕ) × (j : ℕ) × (i < j) × (get_or bs i false ≡ true) × (get_or bs j false ≡ true) → ⊥
    go (i, j, h, p, q) = omega (arith, in_word bs j q, two_bits bs i j w h p q e)

-- at least four bits
pub four : (bs : List Bool) → length bs ≤ 127 → crc 0 bs ≡ 0 → (weight bs ≡ 0 → ⊥) → 4 ≤ weight bs
four bs l e n = omega (arith, even bs e, not_two bs l e)

-- ---- a burst of at most eight bits

-- from s, no f bits come to 0, nor do fewer
never : ℕ → ℕ → Bool
never zero s = not (eqb s 0)
never (suc f) s = not (eqb s 0) && (never f (push true s) && never f (push false s))

no_weight : (bs : List Bool) → ((i : ℕ) → get_or bs i false ≡ true → ⊥) → weight bs ≡ 0
no_weight [] n = refl
no_weight (true ∷ bs) n = absurd (n zero refl)
no_weight (false ∷ bs) n = no_weight bs (λ i p. n (suc i) p)

not_zero : (s : ℕ) → T (not (eqb s 0)) → s ≡ 0 → ⊥
not_zero s t e = T_not (eqb s 0) t (eq→eqb s 0 e)

never_at : (f s : ℕ) (bs : List Bool) → T (never f s) → s < 256 → ((i : ℕ) → get_or bs i false ≡ true → i < f) → crc s bs ≡ 0 → ⊥
unfolding never
never_at zero s bs t h n e = not_zero s t (still s bs h (no_weight bs (λ i p. not-suc-le-zero (n i p))) e)
never_at (suc f) s [] t h n e = not_zero s (and_left (not (eqb s 0)) _ t) e
never_at (suc f) s (true ∷ bs) t h n e =
    never_at f (push true s) bs (and_left (never f (push true s)) (never f (push false s)) (and_right (not (eqb s 0)) _ t))
    (push_lt true s) (λ i p. le_of_suc-le-suc (n (suc i) p)) e
never_at (suc f) s (false ∷ bs) t h n e =
    never_at f (push false s) bs (and_right (never f (push true s)) (never f (push false s)) (and_right (not (eqb s 0)) _ t))
    (push_lt false s) (λ i p. le_of_suc-le-suc (n (suc i) p)) e

seven : T (never 7 7)
unfolding never bit_step
seven = tt

pub burst : (bs : List Bool) (k : ℕ) → ((i : ℕ) → get_or bs i false ≡ true → (k ≤ i) × (i < k + 8)) → crc 0 bs ≡ 0 → weight bs ≡ 0
unfolding bit_step
burst [] k n e = refl
burst (true ∷ bs) k n e = absurd (never_at 7 7 bs seven (lit< tt) (λ i p. omega (arith, (n zero refl).0, (n (suc i) p).1)) e)
burst (false ∷ bs) k n e = burst bs (k - 1) (λ i p. (omega (arith, (n (suc i) p).0), omega (arith, (n (suc i) p).1))) e
