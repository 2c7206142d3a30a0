-- What C gives one by one, put together. Definitions: assumes nothing.
use Rattle.std.specs.Prelude.{ℕ, Bool, false, cond, List, ℤ}
use Rattle.std.proofs.Math.Option.{Option, none, some}
use Rattle.pack.specs.declared.Sample.{Sample}
use Rattle.start.specs.declared.Setup.{Setup}

-- a body, or none: of an absent one the bytes are ignored (RULES 9.4)
abbrev pub given_if : Bool → List ℕ → Option (List ℕ)
given_if has body = cond has (some body) none

abbrev pub sample_with : ℕ → ℤ → ℕ → ℕ → Sample
sample_with voltage current temperature counter =
    record { voltage = voltage; current = current; temperature = temperature; counter = counter }

abbrev pub setup_with : ℕ → ℕ → ℕ → ℕ → ℕ → ℕ → ℕ → ℕ → ℕ → ℕ → ℕ → ℕ → Bool → Setup
setup_with DesignCapacity full remaining DesignVoltage MaxError CycleCount ManufactureDate SerialNumber ChargingCurrent ChargingVoltage TemperatureLimit DischargeLimit plain =
    record {
      DesignCapacity = DesignCapacity;
      full = full;
      remaining = remaining;
      DesignVoltage = DesignVoltage;
      MaxError = MaxError;
      CycleCount = CycleCount;
      ManufactureDate = ManufactureDate;
      SerialNumber = SerialNumber;
      ChargingCurrent = ChargingCurrent;
      ChargingVoltage = ChargingVoltage;
      TemperatureLimit = TemperatureLimit;
      DischargeLimit = DischargeLimit;
      plain = plain;
    }

-- the thirteen-cell pack keeps four of these; C gives no others, and they are 0 (RULES 15.4)
abbrev pub thirteen_setup_with : ℕ → ℕ → ℕ → ℕ → Setup
thirteen_setup_with DesignCapacity full remaining DesignVoltage = setup_with DesignCapacity full remaining DesignVoltage 0 0 0 0 0 0 0 0 false
