-- What the types of the recent minute's fields let them hold.
-- Assumes nothing.
use Rattle.std.specs.Prelude.{◌≡◌, ℕ, ◌^◌, ◌<◌, List, [], ◌∷◌, length}
use Rattle.recent.specs.Recent.{zero_recent}
use Rattle.recent.specs.declared.Recent.{Recent}

-- each is below a bound
abbrev pub Below : ℕ → List ℕ → Type 0
Below bound [] = Unit
Below bound (x ∷ xs) = (x < bound) × Below bound xs

pub record RecentFit (r : Recent) : Type 0 where
  pub sixty : length r.totals ≡ 60
  pub totals : Below (2 ^ 32) r.totals
  pub count : r.count < 2 ^ 64
  pub begun : r.begun < 65536
  pub total : r.total < 2 ^ 32

-- ---- promised: what set-up makes fits

abbrev pub ZeroRecentFits : Type 0
ZeroRecentFits = RecentFit zero_recent
