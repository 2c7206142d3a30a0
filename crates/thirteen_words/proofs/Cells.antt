-- All cells as numbers of two bytes.
-- Assumes nothing.
use Prim.Native.Nat.{ℕ, ◌+◌, ◌*◌, ◌/◌, ◌%◌, ◌<◌}
use mathlib.Core.List.{List, [], ◌∷◌}
use mathlib.Core.Path.{◌≡◌, refl, ap, ap₂}
use native.Mathlib.Omega.{arith}
use lib.ListN.{length, replicate}
use Rattle.numbers.specs.Numbers.{numbers_bytes}
use Rattle.recent.specs.Fits.{Below}
use Rattle.rooms.specs.Rooms.{Bytes}
use Rattle.thirteen_words.specs.Cells.{cell_bytes}

-- two bytes a cell
pub cells_length : (cells : List ℕ) → length (cell_bytes cells) ≡ 2 * length cells
cells_length [] = refl
cells_length (c ∷ cs) = omega (arith, cells_length cs)

-- and each is one
pub cells-bytes : (cells : List ℕ) → Below 65536 cells → Bytes (cell_bytes cells)
cells-bytes [] h = tt
cells-bytes (c ∷ cs) h = (omega (arith, h.0), (omega (arith, h.0), cells-bytes cs h.1))

-- they are the numbers' own
pub cells_are : (cells : List ℕ) → Below 65536 cells → numbers_bytes (replicate (length cells) 2) cells ≡ cell_bytes cells
cells_are [] h = refl
cells_are (c ∷ cs) h =
    let high : c / 256 % 256 ≡ c / 256 = omega (arith, h.0) in
    ap₂ (λ (n : ℕ) (rest : List ℕ). c % 256 ∷ n ∷ rest) high (cells_are cs h.1)
