-- What C gives is handed on as it is.
-- Assumes nothing.
use mathlib.Core.Path.{◌≡◌, ap}
use Prim.Native.Nat.{ℕ}
use lib.IntN.{ℤ}
use mir.Facts.{to_z-of_z}
use mir.Syntax.{w16}
use mir.Val.{SFits, to_z, of_z}
use Rattle.snatchblock.specs.Given.{sample_with}

-- a sample that is handed on keeps its signed current
pub same_sample : (voltage : ℕ) {current : ℤ} (temperature counter : ℕ) → SFits w16 current
    → sample_with voltage (to_z w16 (of_z w16 current)) temperature counter ≡ sample_with voltage current temperature counter
same_sample voltage temperature counter fits = ap (λ (y : ℤ). sample_with voltage y temperature counter) (to_z-of_z {w = w16} fits)
