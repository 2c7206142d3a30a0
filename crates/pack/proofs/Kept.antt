-- A kept sample fits.
-- Assumes nothing.
use Prim.Native.Nat.{◌<◌}
use native.Mathlib.Omega.{arith}
use lib.IntN.{ℤ, pos, negsuc}
use mir.Syntax.{w16}
use mir.Val.{of_z, SFits}
use Rattle.pack.specs.Kept.{KeptFits}

-- the word of a signed 16-bit number
pub word_fits : (z : ℤ) → SFits w16 z → of_z w16 z < 65536
word_fits (pos n) f = let h : n < 32768 = f.sfits in omega arith
word_fits (negsuc n) f = omega arith

pub kept_fits : KeptFits
kept_fits x f =
    record { voltage = f.voltage; current = word_fits x.current f.current; temperature = f.temperature; counter = f.counter }
