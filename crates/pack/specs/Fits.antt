-- What the types of fields let them hold: of a state, part by part, and of what a sample brings.
-- Bytes, words of 16 bits, numbers of 32 and of 64, a signed number of 16.
-- Assumes nothing.
use Rattle.std.specs.Prelude.{◌^◌, ◌<◌}
use Rattle.std.specs.Int.{w16}
use Rattle.std.proofs.Common.{SFits}
use Rattle.pack.specs.declared.Host.{Host}
use Rattle.pack.specs.declared.Latest.{Latest}
use Rattle.pack.specs.declared.Pack.{Pack}
use Rattle.pack.specs.declared.Sample.{Sample}
use Rattle.pack.specs.declared.Settings.{Settings}
use Rattle.pack.specs.declared.State.{State}
use Rattle.pack.specs.declared.Tank.{Tank}
use Rattle.pack.specs.declared.Timers.{Timers}
use Rattle.recent.specs.Fits.{RecentFit}

pub record SettingsFit (s : Settings) : Type 0 where
  pub DesignCapacity : s.DesignCapacity < 65536
  pub DesignVoltage : s.DesignVoltage < 65536
  pub MaxError : s.MaxError < 65536
  pub ManufactureDate : s.ManufactureDate < 65536
  pub SerialNumber : s.SerialNumber < 65536
  pub ChargingCurrent : s.ChargingCurrent < 65536
  pub ChargingVoltage : s.ChargingVoltage < 65536
  pub TemperatureLimit : s.TemperatureLimit < 65536
  pub DischargeLimit : s.DischargeLimit < 65536

pub record HostFit (h : Host) : Type 0 where
  pub ManufacturerAccess : h.ManufacturerAccess < 65536
  pub RemainingCapacityAlarm : h.RemainingCapacityAlarm < 65536
  pub RemainingTimeAlarm : h.RemainingTimeAlarm < 65536
  pub AtRate : h.AtRate < 65536

pub record LatestFit (l : Latest) : Type 0 where
  pub voltage : l.voltage < 65536
  pub current : l.current < 65536
  pub temperature : l.temperature < 65536
  pub counter : l.counter < 2 ^ 32

pub record TankFit (t : Tank) : Type 0 where
  pub charge : t.charge < 2 ^ 64
  pub full : t.full < 65536
  pub CycleCount : t.CycleCount < 65536
  pub toward : t.toward < 2 ^ 64
  pub drawn : t.run.drawn < 2 ^ 64

pub record TimersFit (t : Timers) : Type 0 where
  pub hold : t.hold < 2 ^ 32
  pub alarm : t.alarm < 2 ^ 32
  pub charger : t.charger < 2 ^ 32

pub record PackFits (p : Pack) : Type 0 where
  pub settings : SettingsFit p.settings
  pub host : HostFit p.host
  pub latest : LatestFit p.latest
  pub recent : RecentFit p.recent
  pub tank : TankFit p.tank
  pub timers : TimersFit p.timers

pub record Fits (s : State) : Type 0 where
  pub error : s.error < 256
  pub pack : PackFits s.pack

-- ---- what a sample brings

pub record SampleFits (x : Sample) : Type 0 where
  pub voltage : x.voltage < 65536
  pub current : SFits w16 x.current
  pub temperature : x.temperature < 65536
  pub counter : x.counter < 2 ^ 32
