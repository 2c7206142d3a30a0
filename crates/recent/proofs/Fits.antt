-- What set-up makes of the recent minute fits its types.
-- Assumes nothing.
use Rattle.std.proofs.Common.{ℕ, zero, suc, ◌^◌, ◌<◌, replicate, refl, arith}
use Rattle.recent.specs.Fits.{Below, ZeroRecentFits}

pub below_replicate : (bound n x : ℕ) → x < bound → Below bound (replicate n x)
below_replicate bound zero x h = tt
below_replicate bound (suc n) x h = (h, below_replicate bound n x h)

pub zero_recent_fits : ZeroRecentFits
zero_recent_fits =
    record { sixty = refl; totals = below_replicate (2 ^ 32) 60 0 (omega arith); count = omega arith; begun = omega arith; total = omega arith }
