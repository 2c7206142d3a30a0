-- A turn of each loop that writes or reads, and what its end leaves.
-- Assumes nothing.
use mathlib.Core.Path.{◌≡◌, refl, ap, ◌∙◌}
use mathlib.Core.List.{List, [], ◌∷◌, ◌++◌, map, append-nil}
use Prim.Native.Nat.{ℕ, zero, suc, ◌+◌, ◌-◌, ◌*◌, ◌/◌, ◌%◌, ◌^◌, ◌≤◌, ◌<◌}
use native.Mathlib.Nat.{pow-le-pow_right, pow-suc, add-zero, sub-zero, mul-zero, mul-suc}
use native.Mathlib.Numerals.{add-one}
use native.Mathlib.Omega.{arith}
use lib.ListN.{length, get_or, take, drop, set, replicate, length-replicate, length-set, drop_of_length-le}
use lib.Seq.{sets, sets-eq, take-suc, drop-cons, length-sets}
use Rattle.std.proofs.lemmas.List.{length-map}
use Rattle.rooms.proofs.Rooms.{then}
use Rattle.recent.specs.Fits.{Below}
use Rattle.numbers.specs.Numbers.{number_bytes, numbers_bytes, number_at, numbers_at}

pub bytes_length : (n v : ℕ) → length (number_bytes n v) ≡ n
bytes_length zero v = refl
bytes_length (suc n) v = ap suc (bytes_length n (v / 256))

numbers_length : (widths l : List ℕ) (at : ℕ) → length (numbers_at widths l at) ≡ length widths
numbers_length [] l at = refl
numbers_length (n ∷ widths) l at = ap suc (numbers_length widths l (at + n))

-- a bound on each element is one on all
pub all_below : (bound : ℕ) (l : List ℕ) → ((i : ℕ) → get_or l i 0 < bound) → Below bound l
all_below bound [] h = tt
all_below bound (x ∷ l) h = (h 0, all_below bound l (λ i. h (suc i)))

-- a number more below a bound
below_append : (bound : ℕ) (xs : List ℕ) (x : ℕ) → Below bound xs → x < bound → Below bound (xs ++ (x ∷ []))
below_append bound [] x b h = (h, tt)
below_append bound (y ∷ xs) x b h = (b.0, below_append bound xs x b.1 h)

pub below_more : (bound : ℕ) (xs : List ℕ) (i : ℕ) → i < length xs → get_or xs i 0 < bound → Below bound (take i xs) → Below bound (take (i + 1) xs)
below_more bound xs i l h b = rw (add-one, take-suc xs i 0 l) (below_append bound (take i xs) (get_or xs i 0) b h)

-- one byte of a number more is written
pub byte_turn : (part : List ℕ) (at n i left : ℕ) → i < n
    → sets (set part (at + i) (left % 256)) (at + (i + 1)) (number_bytes (n - (i + 1)) (left / 256)) ≡ sets part (at + i) (number_bytes (n - i) left)
byte_turn part at n i left h =
    let m : n - i ≡ suc (n - (i + 1)) = omega arith in
    let e : at + (i + 1) ≡ suc (at + i) = omega arith in
    rw (m, e)

-- ---- a list of numbers is written, all of one width

-- a number's place, from that of the one before it
next_place : (width at i : ℕ) → at + width * (i + 1) ≡ at + width * i + width
next_place width at i = rw (add-one, mul-suc) (omega arith)

-- one number of a list more is written
put_turn : (width : ℕ) (part values : List ℕ) (i p q : ℕ) → i < length values → q ≡ p + width
    → sets (sets part p (number_bytes width (get_or values i 0))) q (numbers_bytes (replicate (length (drop (i + 1) values)) width) (drop (i + 1) values))
    ≡ sets part p (numbers_bytes (replicate (length (drop i values)) width) (drop i values))
put_turn width part values i p q h e =
    rw (add-one, drop-cons values i 0 h)
    (then part p q (number_bytes width (get_or values i 0)) (numbers_bytes (replicate (length (drop (suc i) values)) width) (drop (suc i) values)) refl (omega (arith, bytes_length width (get_or values i 0))))

-- with the first i written, the rest makes all
abbrev pub Writing : ℕ → List ℕ → ℕ → List ℕ → List ℕ → ℕ → Type 0
Writing width part₀ at values part i =
    (i ≤ length values)
    × (sets part (at + width * i) (numbers_bytes (replicate (length (drop i values)) width) (drop i values)) ≡ sets part₀ at (numbers_bytes (replicate (length values) width) values))
    × (length part ≡ length part₀)

pub writing_starts : (width : ℕ) (part : List ℕ) (at : ℕ) (values : List ℕ) → Writing width part at values part 0
writing_starts width part at values = (omega arith, rw (mul-zero, add-zero), refl)

pub writing_goes_on : (width : ℕ) (part₀ : List ℕ) (at : ℕ) (values part : List ℕ) (i : ℕ) {value : ℕ} {next : List ℕ} → i < length values
    → get_or values i 0 ≡ value → next ≡ sets part (at + width * i) (number_bytes width value) → Writing width part₀ at values part i → Writing width part₀ at values next (i + 1)
writing_goes_on width part₀ at values part i h e p w = (
  omega arith,
  rw (p, ← e) (put_turn width part values i (at + width * i) (at + width * (i + 1)) h (next_place width at i) ∙ w.1),
  rw (p, ← e) (length-sets part (at + width * i) (number_bytes width (get_or values i 0)) ∙ w.2),
)

pub writing_ends : (width : ℕ) (part₀ : List ℕ) (at : ℕ) (values part : List ℕ) (i : ℕ) → length values ≤ i
    → Writing width part₀ at values part i → part ≡ sets part₀ at (numbers_bytes (replicate (length values) width) values)
writing_ends width part₀ at values part i h w = rw (drop_of_length-le values h) at w.1

-- ---- a number is read

-- a number of fewer than eight bytes leaves room for one byte more
room_left : (n : ℕ) {v : ℕ} → n < 8 → v < 256 ^ n → v < 2 ^ 56
room_left n h small =
    let few : n ≤ 7 = omega arith in
    let most : 256 ^ n ≤ 256 ^ 7 = pow-le-pow_right (omega arith) few in
    omega arith

-- one byte of a number more is read, from the last to the first
pub read_turn : (part : List ℕ) (at n i : ℕ) {found : ℕ} → 0 < i → i ≤ n → n ≤ 8 → get_or part (at + (i - 1)) 0 < 256
    → found ≡ number_at (n - i) part (at + i) → found < 256 ^ (n - i)
    → (found * 2 ^ 8 % 2 ^ 64 + get_or part (at + (i - 1)) 0 ≡ number_at (n - (i - 1)) part (at + (i - 1)))
    × (found * 2 ^ 8 % 2 ^ 64 + get_or part (at + (i - 1)) 0 < 256 ^ (n - (i - 1)))
read_turn part at n i {found} h less few byte same small =
    let m : n - (i - 1) ≡ suc (n - i) = omega arith in
    let e : at + i ≡ suc (at + (i - 1)) = omega arith in
    let same' : found ≡ number_at (n - i) part (suc (at + (i - 1))) = rw e at same in
    let exact : found * 2 ^ 8 % 2 ^ 64 ≡ 256 * found = omega (arith, room_left (n - i) (omega arith) small) in
    (rw (exact, m) (omega (arith, same')), rw (exact, m, pow-suc) (omega arith))

-- ---- a list of numbers is read, all of one width

module _ {A : Type 0} (of : ℕ → A) (width : ℕ) (part : List ℕ) (at : ℕ) where
  -- so many numbers from a place on
  abbrev pub found_at : ℕ → ℕ → List A
  found_at n p = map of (numbers_at (replicate n width) part p)

  found_length : (n p : ℕ) → length (found_at n p) ≡ n
  found_length n p = length-map (numbers_at (replicate n width) part p) of ∙ numbers_length (replicate n width) part p ∙ length-replicate n width

  -- with the first i read, the rest makes all
  pub record Reading (found₀ found : List A) (i : ℕ) : Type 0 where
    pub all : sets found i (found_at (length found₀ - i) (at + width * i)) ≡ sets found₀ 0 (found_at (length found₀) at)
    pub long : length found ≡ length found₀

  pub reading_starts : (found : List A) → Reading found found 0
  reading_starts found = record { all = rw (mul-zero, add-zero, sub-zero); long = refl }

  pub reading_goes_on : (found₀ found : List A) (i : ℕ) {value : A} → i < length found₀ → value ≡ of (number_at width part (at + width * i))
      → Reading found₀ found i → Reading found₀ (set found i value) (i + 1)
  reading_goes_on found₀ found i h e r =
      let m : length found₀ - i ≡ suc (length found₀ - suc i) = omega arith in
      record { all = rw (e, next_place width at i, add-one i) (rw m at r.all); long = length-set found i _ ∙ r.long }

  pub reading_ends : (found₀ found : List A) (i : ℕ) → length found₀ ≤ i → Reading found₀ found i → found ≡ map of (numbers_at (replicate (length found₀) width) part at)
  reading_ends found₀ found i h r =
      let none : length found₀ - i ≡ 0 = omega arith in
      let all = found_at (length found₀) at in
      let n : length all ≡ length found₀ = found_length (length found₀) at in
      let past : length found₀ ≤ 0 + length all = omega arith in
      (rw none at r.all) ∙ sets-eq all found₀ 0 (omega arith) ∙ ap (λ (l : List A). all ++ l) (drop_of_length-le found₀ past) ∙ append-nil all
