-- What each part's test (specs/Sound) says, fact by fact.
-- Assumes nothing.
use Rattle.std.specs.Prelude.{◌<◌, ◌≤◌, true, false, ◌≡◌}
use Rattle.capacity.specs.Capacity.{milliamp_ms}
use Rattle.pack.specs.Sound.{settings_sound, tank_sound, toward_sound, run_sound, timers_sound}
use Rattle.pack.specs.declared.Host.{Host}
use Rattle.pack.specs.declared.Pack.{Pack}
use Rattle.pack.specs.declared.Run.{Run}
use Rattle.pack.specs.declared.Settings.{Settings}
use Rattle.pack.specs.declared.Tank.{Tank}
use Rattle.pack.specs.declared.Timers.{Timers}
use Rattle.recent.specs.Recent.{recent_sound}

pub record SettingsFacts (s : Settings) : Type 0 where
  pub design : 0 < s.DesignCapacity
  pub voltage : 0 < s.DesignVoltage

pub record TankFacts (t : Tank) : Type 0 where
  pub full : 0 < t.full
  pub charge : t.charge ≤ milliamp_ms t.full

pub record RunFacts (u : Run) : Type 0 where
  pub most : u.drawn ≤ milliamp_ms 65535
  pub none : u.opened ≡ false → u.drawn ≡ 0

pub record TimersFacts (h : Host) (t : Timers) : Type 0 where
  pub hold : t.hold ≤ 60000
  pub alarm : t.alarm ≤ 10000
  pub charger : t.charger ≤ 29999
  pub stands : h.ChargerMode ≡ true → t.charger ≡ 0
  pub ended : t.hold ≡ 0 → h.AlarmMode ≡ false
  pub clear : h.AlarmMode ≡ false → t.hold ≡ 0

-- each part is sound
pub record SoundParts (p : Pack) : Type 0 where
  pub settings : settings_sound p.settings ≡ true
  pub tank : tank_sound p.tank ≡ true
  pub toward : toward_sound p.settings.DesignCapacity p.tank.toward ≡ true
  pub run : run_sound p.tank.run ≡ true
  pub recent : recent_sound p.recent ≡ true
  pub timers : timers_sound p.host p.timers ≡ true
