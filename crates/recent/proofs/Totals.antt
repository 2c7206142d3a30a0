-- What currents can give in so many milliseconds: as facts, of sums, and as words.
-- Assumes nothing.
use Rattle.std.proofs.Common.{◌≡◌, ℕ, zero, suc, ◌+◌, ◌-◌, ◌*◌, ◌<◌, ◌≤◌, true, ◌&&◌, leb, List, [], ◌∷◌, ◌++◌, length, get_or, take, ℤ, pos, negsuc, ◌+ℤ◌, neg_ℤ, sym, refl, ap, ◌∙◌, arith, get_or-take, w32, to_z, SFits, le-leb, leb-true}
use mathlib.Core.Bool.{and-true, and_assoc, and-eq-true_iff}
use borrow.Author.Tests.{lt-leb}
use Rattle.std.proofs.lemmas.List.{take_more}
use lib.IntN.{sub_ℕ}
use lib.Signed.{le_z}
use Rattle.recent.specs.Recent.{can_give, total_sound, totals_sound, sum_of}
use Rattle.recent.proofs.Integers.{sub_lt, sub_ge}
use Rattle.words.proofs.Integers.{split}

-- a bound below, of a number of 0 or above and of one below 0
neg_pos : (b a : ℕ) → le_z (neg_ℤ (pos b)) (pos a) ≡ true
neg_pos zero a = le-leb 0 a (omega arith)
neg_pos (suc b) a = refl

neg_neg : (b n : ℕ) → le_z (neg_ℤ (pos b)) (negsuc n) ≡ leb (suc n) b
neg_neg zero n = sym (lt-leb (suc n) 0 (omega arith))
neg_neg (suc b) n = split n (suc b) (λ h. le-leb n b (omega arith) ∙ sym (le-leb (suc n) (suc b) (omega arith))) (λ h. lt-leb n b (omega arith) ∙ sym (lt-leb (suc n) (suc b) (omega arith)))

-- of a number of 0 or above the upper bound counts, of one below 0 the lower
give_pos : (ms n : ℕ) → can_give ms (pos n) ≡ leb n (32767 * ms)
give_pos ms n = ap (λ b. b && leb n (32767 * ms)) (neg_pos (32768 * ms) n)

give_neg : (ms n : ℕ) → can_give ms (negsuc n) ≡ leb (suc n) (32768 * ms)
give_neg ms n = ap (λ b. b && true) (neg_neg (32768 * ms) n) ∙ and-true (leb (suc n) (32768 * ms))

-- the same as facts, and back
pub can_pos : (ms n : ℕ) → can_give ms (pos n) ≡ true → n ≤ 32767 * ms
can_pos ms n h = leb-true n (32767 * ms) (sym (give_pos ms n) ∙ h)

pub can_neg : (ms n : ℕ) → can_give ms (negsuc n) ≡ true → suc n ≤ 32768 * ms
can_neg ms n h = leb-true (suc n) (32768 * ms) (sym (give_neg ms n) ∙ h)

pub pos_can : (ms n : ℕ) → n ≤ 32767 * ms → can_give ms (pos n) ≡ true
pos_can ms n h = give_pos ms n ∙ le-leb n (32767 * ms) h

pub neg_can : (ms n : ℕ) → suc n ≤ 32768 * ms → can_give ms (negsuc n) ≡ true
neg_can ms n h = give_neg ms n ∙ le-leb (suc n) (32768 * ms) h

sub_can : (ms a b : ℕ) → a ≤ b + 32767 * ms → b ≤ a + 32768 * ms → can_give ms (sub_ℕ a b) ≡ true
sub_can ms a b h k =
    split a b (λ l. ap (can_give ms) (sub_lt a b l) ∙ neg_can ms (b - suc a) (omega arith))
    (λ l. ap (can_give ms) (sub_ge a b l) ∙ pos_can ms (a - b) (omega arith))

-- in m milliseconds and n more
pub sum_can : (m n : ℕ) (y z : ℤ) → can_give m y ≡ true → can_give n z ≡ true → can_give (m + n) (y +ℤ z) ≡ true
sum_can m n (pos a) (pos b) h k = pos_can (m + n) (a + b) (omega (arith, can_pos m a h, can_pos n b k))
sum_can m n (pos a) (negsuc b) h k =
    sub_can (m + n) a (suc b) (omega (arith, can_pos m a h)) (omega (arith, can_neg n b k))
sum_can m n (negsuc a) (pos b) h k =
    sub_can (m + n) b (suc a) (omega (arith, can_pos n b k)) (omega (arith, can_neg m a h))
sum_can m n (negsuc a) (negsuc b) h k = neg_can (m + n) (suc (a + b)) (omega (arith, can_neg m a h, can_neg n b k))

-- in more milliseconds too
pub can_longer : (m n : ℕ) (z : ℤ) → m ≤ n → can_give m z ≡ true → can_give n z ≡ true
can_longer m n (pos a) k h = pos_can n a (omega (arith, can_pos m a h))
can_longer m n (negsuc a) k h = neg_can n a (omega (arith, can_neg m a h))

-- in a minute a signed 32-bit number
pub can_fits : (ms : ℕ) (z : ℤ) → ms ≤ 60000 → can_give ms z ≡ true → SFits w32 z
can_fits ms (pos n) h k = record { sfits = omega (arith, can_pos ms n k) }
can_fits ms (negsuc n) h k = record { sfits = omega (arith, can_neg ms n k) }

pub same_test : (a b c d : ℕ) → (a ≤ b → c ≤ d) → (c ≤ d → a ≤ b) → leb a b ≡ leb c d
same_test a b c d f g =
    split b a (λ h. lt-leb a b h ∙ sym (split d c (λ k. lt-leb c d k) (λ k. absurd (omega (arith, g k)))))
    (λ h. le-leb a b h ∙ sym (le-leb c d (f h)))

-- ---- totals one after the other

pub totals_append : (a b : List ℕ) → totals_sound (a ++ b) ≡ totals_sound a && totals_sound b
unfolding totals_sound
totals_append [] b = refl
totals_append (t ∷ a) b =
    ap (λ x. total_sound 1000 t && x) (totals_append a b) ∙ sym (and_assoc (total_sound 1000 t) (totals_sound a) (totals_sound b))

-- whether the first are, and one more
pub totals_next : (l : List ℕ) (i : ℕ) → i < length l → totals_sound (take i l) && total_sound 1000 (get_or l i 0) ≡ totals_sound (take (i + 1) l)
unfolding totals_sound
totals_next l i h =
    ap (λ b. totals_sound (take i l) && b) (sym (and-true (total_sound 1000 (get_or l i 0)))) ∙ sym (totals_append (take i l) (get_or l i 0 ∷ [])) ∙ ap totals_sound (sym (take_more l i 0 h))

-- where all are, each is
pub totals_each : (l : List ℕ) (n i : ℕ) → i < n → totals_sound (take n l) ≡ true → total_sound 1000 (get_or l i 0) ≡ true
unfolding totals_sound
totals_each l zero i k h = absurd (omega arith)
totals_each [] (suc n) i k h = refl
totals_each (t ∷ l) (suc n) zero k h = ((and-eq-true_iff _ _).0 h).0
totals_each (t ∷ l) (suc n) (suc i) k h = totals_each l n i (omega arith) ((and-eq-true_iff (total_sound 1000 t) (totals_sound (take n l))).0 h).1

-- the first n of sound totals sum to what so many seconds can give
pub sum_given : (l : List ℕ) (n m : ℕ) → n ≤ m → totals_sound (take m l) ≡ true → can_give (1000 * n) (sum_of l n) ≡ true
unfolding sum_of
sum_given l zero m k h = refl
sum_given l (suc n) m k h =
    let e : 1000 * n + 1000 ≡ 1000 * suc n = omega arith in
    ap (λ ms. can_give ms (sum_of l (suc n))) (sym e)
    ∙ sum_can (1000 * n) 1000 (sum_of l n) (to_z w32 (get_or l n 0)) (sum_given l n m (omega arith) h) (totals_each l m n (omega arith) h)

-- the sum of the first n, of a list cut at m
pub sum_cut : (l : List ℕ) (n m : ℕ) → n ≤ m → sum_of (take m l) n ≡ sum_of l n
unfolding sum_of
sum_cut l zero m k = refl
sum_cut l (suc n) m k = let h : n < m = omega arith in rw get_or-take (ap (λ (z : ℤ). z +ℤ to_z w32 (get_or l n 0)) (sum_cut l n m (omega arith)))
