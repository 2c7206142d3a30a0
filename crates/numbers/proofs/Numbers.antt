-- One law over widths and numbers, in both directions: what is stored is read back, and what is read is stored again.
-- Assumes nothing.
use mathlib.Core.Path.{◌≡◌, refl, sym, ap, ◌∙◌}
use mathlib.Core.Bool.{Bool, true, false}
use mathlib.Core.List.{List, [], ◌∷◌, ◌++◌, append_assoc, append-nil}
use Prim.Native.Nat.{ℕ, zero, suc, ◌+◌, ◌-◌, ◌*◌, ◌/◌, ◌%◌, ◌^◌, ◌≤◌, ◌<◌}
use native.Mathlib.Nat.{add-zero, pow-suc, div-lt_iff_lt-mul}
use native.Mathlib.Omega.{arith}
use lib.ListN.{length, get_or, take, drop, replicate, drop_of_length-le}
use lib.Seq.{drop-cons, take-nil, drop-nil}
use Rattle.std.specs.Int.{from_bool}
use Rattle.recent.specs.Fits.{Below}
use Rattle.rooms.proofs.Rooms.{byte_at}
use Rattle.rooms.specs.Rooms.{Bytes, between}
use Rattle.numbers.specs.Numbers.{number_bytes, numbers_bytes, number_at, numbers_at, bytes_taken, Within, flag_of}

-- ---- flags

-- the library's number of a flag is the flag's
pub flag_is : (b : Bool) → from_bool b ≡ flag_of b
flag_is true = refl
flag_is false = refl

-- ---- stored, then read

-- what stands first from a place on, and what follows it
first : (l : List ℕ) (at : ℕ) {x : ℕ} {t : List ℕ} → drop at l ≡ x ∷ t → (get_or l at 0 ≡ x) × (drop (suc at) l ≡ t)
first [] zero e = absurd (let z : ◌≡◌ {A = ℕ} 0 1 = cc in omega arith)
first [] (suc at) e = absurd (let z : ◌≡◌ {A = ℕ} 0 1 = cc in omega arith)
first (y ∷ l) zero e = (cc, cc)
first (y ∷ l) (suc at) e = first l at e

-- a number's bytes are read back, and what follows them is what followed
number_back : (n v : ℕ) (l : List ℕ) (at : ℕ) {t : List ℕ} → v < 256 ^ n → drop at l ≡ number_bytes n v ++ t
    → (number_at n l at ≡ v) × (drop (at + n) l ≡ t)
number_back zero v l at h e = (omega arith, ap (λ (k : ℕ). drop k l) (add-zero at) ∙ e)
number_back (suc n) v l at h e =
    let f = first l at e in
    let less : v < 256 ^ n * 256 = rw pow-suc at h in
    let small : v / 256 < 256 ^ n = (div-lt_iff_lt-mul {k = 256} {x = v} {y = 256 ^ n} (omega arith)).1 less in
    let b = number_back n (v / 256) l (suc at) small f.1 in
    let next : at + suc n ≡ suc at + n = omega arith in
    (omega (arith, f.0, b.0), ap (λ (k : ℕ). drop k l) next ∙ b.1)

-- the numbers of a list are read back, and what follows their bytes is what followed
pub numbers_then : (widths values l : List ℕ) (at : ℕ) {t : List ℕ} → Within widths values → drop at l ≡ numbers_bytes widths values ++ t
    → (numbers_at widths l at ≡ values) × (drop (at + bytes_taken widths) l ≡ t)
numbers_then [] [] l at h e = (refl, ap (λ (k : ℕ). drop k l) (add-zero at) ∙ e)
numbers_then [] (v ∷ values) l at h e = absurd h
numbers_then (n ∷ widths) [] l at h e = absurd h
numbers_then (n ∷ widths) (v ∷ values) l at {t} h e =
    let b = number_back n v l at h.0 (e ∙ append_assoc (number_bytes n v) (numbers_bytes widths values) t) in
    let more = numbers_then widths values l (at + n) h.1 b.1 in
    let next : at + (n + bytes_taken widths) ≡ at + n + bytes_taken widths = omega arith in
    (rw (b.0, more.0), ap (λ (k : ℕ). drop k l) next ∙ more.1)

-- where nothing follows them
pub numbers_back : (widths values l : List ℕ) (at : ℕ) → Within widths values → drop at l ≡ numbers_bytes widths values → numbers_at widths l at ≡ values
numbers_back widths values l at h e = (numbers_then widths values l at h (e ∙ sym (append-nil (numbers_bytes widths values)))).0

-- ---- read, then stored

bytes_part : (l : List ℕ) (start n : ℕ) → Bytes l → Bytes (take n (drop start l))
bytes_part [] start n b = rw (drop-nil start, take-nil n) tt
bytes_part (x ∷ l) zero zero b = tt
bytes_part (x ∷ l) zero (suc n) b = (b.0, bytes_part l zero n b.1)
bytes_part (x ∷ l) (suc start) n b = bytes_part l start n b.1

-- those from one place to another are bytes too
pub bytes_between : (l : List ℕ) → Bytes l → (start end : ℕ) → Bytes (between l start end)
bytes_between l b start end = bytes_part l start (end - start) b

module _ (l : List ℕ) (b : Bytes l) where
  pub number-again : (n at : ℕ) → at + n ≤ length l → number_bytes n (number_at n l at) ++ drop (at + n) l ≡ drop at l
  number-again zero at h = ap (λ (k : ℕ). drop k l) (add-zero at)
  number-again (suc n) at h =
      let N : ℕ = number_at n l (suc at) in
      let x : ℕ = get_or l at 0 in
      let low : (x + 256 * N) % 256 ≡ x = omega (arith, byte_at l b at) in
      let high : (x + 256 * N) / 256 ≡ N = omega (arith, byte_at l b at) in
      let next : at + suc n ≡ suc at + n = omega arith in
      let more : number_bytes n N ++ drop (suc at + n) l ≡ drop (suc at) l = number-again n (suc at) (omega arith) in
      let here : drop at l ≡ x ∷ drop (suc at) l = drop-cons l at 0 (omega arith) in
      rw (low, high, next, more, here)

  pub numbers-again : (widths : List ℕ) (at : ℕ) → at + bytes_taken widths ≤ length l → numbers_bytes widths (numbers_at widths l at) ++ drop (at + bytes_taken widths) l ≡ drop at l
  numbers-again [] at h = ap (λ (k : ℕ). drop k l) (add-zero at)
  numbers-again (n ∷ widths) at h =
      let next : at + (n + bytes_taken widths) ≡ at + n + bytes_taken widths = omega arith in
      let more : numbers_bytes widths (numbers_at widths l (at + n)) ++ drop (at + n + bytes_taken widths) l ≡ drop (at + n) l = numbers-again widths (at + n) (omega arith) in
      rw (append_assoc, next, more) (number-again n at (omega arith))

  -- numbers that take the whole list
  pub all-again : (widths : List ℕ) → length l ≡ bytes_taken widths → numbers_bytes widths (numbers_at widths l 0) ≡ l
  all-again widths e =
      let w : List ℕ = numbers_bytes widths (numbers_at widths l 0) in
      let n : length l ≤ 0 + bytes_taken widths = omega arith in
      let past : drop (0 + bytes_taken widths) l ≡ [] = drop_of_length-le l n in
      sym (append-nil w) ∙ ap (λ (t : List ℕ). w ++ t) (sym past) ∙ numbers-again widths 0 (omega arith)

  -- a number is within its width
  pub number_fits : (n at : ℕ) → number_at n l at < 256 ^ n
  number_fits zero at = omega arith
  number_fits (suc n) at = rw pow-suc (omega (arith, byte_at l b at, number_fits n (suc at)))

  -- and so is each of several of one width
  pub numbers_fit : (width n at : ℕ) → Below (256 ^ width) (numbers_at (replicate n width) l at)
  numbers_fit width zero at = tt
  numbers_fit width (suc n) at = (number_fits width at, numbers_fit width n (at + width))
