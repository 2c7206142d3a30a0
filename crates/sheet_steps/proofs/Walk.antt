-- The loops over the rows: what a turn says of the definitions. Assumes nothing.
use mathlib.Core.Path.{◌≡◌, ap, ◌∙◌}
use mathlib.Core.Bool.{Bool, true, false, cond}
use mathlib.Core.List.{List, [], ◌∷◌}
use Prim.Native.Nat.{ℕ, suc, ◌+◌, ◌*◌, ◌-◌, ◌/◌, ◌%◌, ◌≤◌, ◌<◌}
use native.Mathlib.Omega.{arith}
use lib.Dec.{ltb}
use lib.ListN.{length, get_or, set}
use lib.Seq.{sets}
use mir.Syntax.{w16}
use borrow.Author.Tests.{lt-ltb, le-ltb}
use Rattle.std.specs.Int.{from_bool, byte_at, to_le_bytes}
use Rattle.sheet.specs.Sheet.{tag_at, offset_at}
use Rattle.sheet_steps.specs.Steps.{count_below, place_in, laid_rows}

-- ---- counting

-- a test as a number
pub one_or_none : (b : Bool) {x : ℕ} → x ≡ from_bool b → (x ≤ 1) × (x ≡ cond b 1 0)
one_or_none true e = (omega arith, e)
one_or_none false e = (omega arith, e)

module _ (s : List ℕ) (n i tag k total : ℕ) (inv : k + count_below (n - i) s (1 + 4 * i) tag ≡ total) where
  pub count_turn : (x : ℕ) → i < n → x ≡ cond (ltb (tag_at s (1 + 4 * i)) tag) 1 0 → k + x + count_below (n - (i + 1)) s (1 + 4 * (i + 1)) tag ≡ total
  unfolding count_below
  count_turn x h e =
      let z : n - i ≡ suc (n - (i + 1)) = omega arith in
      let y : 1 + 4 * (i + 1) ≡ 1 + 4 * i + 4 = omega arith in
      let inv' : k + count_below (suc (n - (i + 1))) s (1 + 4 * i) tag ≡ total = rw z at inv in
      rw y (omega arith)

  pub count-end : n ≤ i → k ≡ total
  unfolding count_below
  count-end h =
      let z : n - i ≡ 0 = omega arith in
      let inv' : k + 0 ≡ total = rw z at inv in
      omega arith

-- ---- offsets

-- a place in two bytes, low first
two_bytes : (n : ℕ) → n < 65536 → to_le_bytes w16 n ≡ n % 256 ∷ n / 256 ∷ []
two_bytes n h =
    let a : byte_at 0 n ≡ n % 256 = omega arith in
    let b : byte_at 1 n ≡ n / 256 = omega arith in
    cc

module _ (n : ℕ) (s : List ℕ) (i end : ℕ) (total : List ℕ) (inv : laid_rows (n - i) s (1 + 4 * i) end ≡ total) where
  pub lay-turn : (size : ℕ) {bytes new : List ℕ} → i < n → end < 65536 → size ≡ get_or s (1 + 4 * i + 1) 0 → bytes ≡ to_le_bytes w16 end → new ≡ sets s (1 + 4 * i + 2) bytes
      → laid_rows (n - (i + 1)) new (1 + 4 * (i + 1)) (end + size) ≡ total
  unfolding laid_rows
  lay-turn size {bytes} {new} h k e b m =
      let z : suc (n - (i + 1)) ≡ n - i = omega arith in
      let y : 1 + 4 * (i + 1) ≡ 1 + 4 * i + 4 = omega arith in
      let x : 1 + 4 * i + 3 ≡ suc (1 + 4 * i + 2) = omega arith in
      let stored : new ≡ set (set s (1 + 4 * i + 2) (end % 256)) (1 + 4 * i + 3) (end / 256) = m ∙ ap (λ (v : List ℕ). sets s (1 + 4 * i + 2) v) (b ∙ two_bytes end k) ∙ rw x in
      rw (y, e, stored) (ap (λ (k : ℕ). laid_rows k s (1 + 4 * i) end) z ∙ inv)

  pub lay-end : n ≤ i → s ≡ total
  unfolding laid_rows
  lay-end h =
      let z : 0 ≡ n - i = omega arith in
      ap (λ (k : ℕ). laid_rows k s (1 + 4 * i) end) z ∙ inv

-- ---- where a body starts

pub in_row : (s : List ℕ) (n k o : ℕ) → k < n → o ≡ offset_at s (1 + 4 * k) → o ≡ place_in s n k
unfolding place_in
in_row s n k o h e = rw (lt-ltb _ _ h) e

pub past_rows : (s : List ℕ) (n k : ℕ) → n ≤ k → length s ≡ place_in s n k
unfolding place_in
past_rows s n k h = rw (le-ltb _ _ h)
