-- What the types of set-up's fields let them hold.
-- Assumes nothing.
use Rattle.std.specs.Prelude.{◌<◌}
use Rattle.start.specs.declared.Setup.{Setup}

pub record SetupFits (u : Setup) : Type 0 where
  pub DesignCapacity : u.DesignCapacity < 65536
  pub full : u.full < 65536
  pub remaining : u.remaining < 65536
  pub DesignVoltage : u.DesignVoltage < 65536
  pub MaxError : u.MaxError < 65536
  pub CycleCount : u.CycleCount < 65536
  pub ManufactureDate : u.ManufactureDate < 65536
  pub SerialNumber : u.SerialNumber < 65536
  pub ChargingCurrent : u.ChargingCurrent < 65536
  pub ChargingVoltage : u.ChargingVoltage < 65536
  pub TemperatureLimit : u.TemperatureLimit < 65536
  pub DischargeLimit : u.DischargeLimit < 65536
