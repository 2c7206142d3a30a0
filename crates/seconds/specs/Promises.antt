-- What a sample keeps of the recent minute, the theorems that `proofs/` proves.
-- Assumes nothing.
use Rattle.std.specs.Prelude.{◌≡◌, ℕ, true}
use Rattle.recent.specs.Fits.{RecentFit}
use Rattle.recent.specs.Recent.{recent_sound}
use Rattle.recent.specs.declared.Recent.{Recent}
use Rattle.seconds.specs.Seconds.{recent_after}

-- sound stays sound
abbrev pub AfterSound : Type 0
AfterSound = (r : Recent) (current elapsed : ℕ) → recent_sound r ≡ true → recent_sound (recent_after r current elapsed) ≡ true

-- fields still hold what their types let them hold
abbrev pub AfterFits : Type 0
AfterFits = (r : Recent) (current elapsed : ℕ) → recent_sound r ≡ true → RecentFit r → RecentFit (recent_after r current elapsed)
