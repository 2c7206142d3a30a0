-- Request R-5: a state, and the same but for the choice of set-up, plain or with PEC.
-- Assumes nothing.
use Rattle.std.specs.Prelude.{Bool}
use Rattle.pack.specs.declared.Pack.{Pack}
use Rattle.pack.specs.declared.Settings.{Settings}
use Rattle.pack.specs.declared.State.{State}

-- what set-up fixes, with the choice made so
abbrev pub settings_as : Bool → Settings → Settings
settings_as plain s =
    record {
      DesignCapacity = s.DesignCapacity;
      DesignVoltage = s.DesignVoltage;
      MaxError = s.MaxError;
      ManufactureDate = s.ManufactureDate;
      SerialNumber = s.SerialNumber;
      ChargingCurrent = s.ChargingCurrent;
      ChargingVoltage = s.ChargingVoltage;
      TemperatureLimit = s.TemperatureLimit;
      DischargeLimit = s.DischargeLimit;
      plain = plain;
    }

-- a pack with it, all else as it is
abbrev pub pack_as : Bool → Pack → Pack
pack_as plain p =
    record {
      settings = settings_as plain p.settings;
      host = p.host;
      latest = p.latest;
      recent = p.recent;
      tank = p.tank;
      timers = p.timers;
    }

-- a state with it, all else as it is
abbrev pub state_as : Bool → State → State
state_as plain s = record { error = s.error; pack = pack_as plain s.pack }
