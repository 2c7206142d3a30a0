-- What set-up's conditions say fact by fact.
-- Assumes nothing.
use Rattle.std.specs.Prelude.{◌<◌, ◌≤◌}
use Rattle.start.specs.declared.Setup.{Setup}

-- set-up that isn't refused
pub record Served (u : Setup) : Type 0 where
  pub design : 0 < u.DesignCapacity
  pub full : 0 < u.full
  pub voltage : 0 < u.DesignVoltage
  pub remaining : u.remaining ≤ u.full
