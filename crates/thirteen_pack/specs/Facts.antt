-- What the test of a sound pack says, fact by fact.
-- Assumes nothing.
use Rattle.std.specs.Prelude.{◌<◌, ◌≤◌, true, ◌≡◌}
use Rattle.capacity.specs.Capacity.{milliamp_ms}
use Rattle.recent.specs.Recent.{recent_sound}
use Rattle.thirteen_pack.specs.declared.Thirteen.{Thirteen}

pub record SoundFacts (p : Thirteen) : Type 0 where
  pub design : 0 < p.fixed.DesignCapacity
  pub voltage : 0 < p.fixed.DesignVoltage
  pub full : 0 < p.level.full
  pub charge : p.level.charge ≤ milliamp_ms p.level.full
  pub recent : recent_sound p.recent ≡ true
