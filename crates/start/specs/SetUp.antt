-- Document 01, Answer number 11, and Registers: what set-up gives. Answer 11 and the all-zero state, or 0 and the state of the first sample.
-- Assumes nothing.
use Rattle.std.specs.Prelude.{◌/◌, Bool, false, cond, ◌||◌, ltb, eqb}
use Rattle.pack.specs.Kept.{latest_of}
use Rattle.pack.specs.declared.Host.{Host}
use Rattle.pack.specs.declared.Latest.{Latest}
use Rattle.pack.specs.declared.Pack.{Pack}
use Rattle.pack.specs.declared.Sample.{Sample}
use Rattle.pack.specs.declared.Settings.{Settings}
use Rattle.pack.specs.declared.State.{State}
use Rattle.pack.specs.declared.Tank.{Tank}
use Rattle.pack.specs.declared.Timers.{Timers}
use Rattle.capacity.specs.Capacity.{milliamp_ms, fully_discharged_of}
use Rattle.recent.specs.Recent.{zero_recent}
use Rattle.start.specs.declared.Setup.{Setup}
use Rattle.pack.specs.declared.Answered.{Answered}

-- design capacity, full capacity or design voltage 0, or remaining above full (RULES 1.11)
abbrev pub set_up_refused : Setup → Bool
set_up_refused u =
    eqb u.DesignCapacity 0 || eqb u.full 0 || eqb u.DesignVoltage 0 || ltb u.full u.remaining

-- what set-up fixes, the choice plain among it (RULES 3.9, 8.7)
abbrev pub settings_of : Setup → Settings
settings_of u =
    record {
      DesignCapacity = u.DesignCapacity;
      DesignVoltage = u.DesignVoltage;
      MaxError = u.MaxError;
      ManufactureDate = u.ManufactureDate;
      SerialNumber = u.SerialNumber;
      ChargingCurrent = u.ChargingCurrent;
      ChargingVoltage = u.ChargingVoltage;
      TemperatureLimit = u.TemperatureLimit;
      DischargeLimit = u.DischargeLimit;
      plain = u.plain;
    }

-- 00 and 04 first 0; 01 first floor(design/10); 02 first 10; the bits of 03 first 0 (RULES 3.10)
abbrev pub host_of : Setup → Host
host_of u =
    record {
      ManufacturerAccess = 0;
      RemainingCapacityAlarm = u.DesignCapacity / 10;
      RemainingTimeAlarm = 10;
      AtRate = 0;
      AlarmMode = false;
      ChargerMode = false;
      CapacityMode = false;
    }

-- charge in mA·ms; bit 4 is decided at set-up from clear; nothing is drawn toward the next cycle; a run opens when set-up leaves the pack full (RULES 3.9, 3.10, 6.23, 7.11)
abbrev pub tank_of : Setup → Tank
tank_of u =
    record {
      charge = milliamp_ms u.remaining;
      full = u.full;
      CycleCount = u.CycleCount;
      FullyDischarged = fully_discharged_of false (milliamp_ms u.remaining) u.full;
      toward = 0;
      run = record { opened = eqb u.remaining u.full; drawn = 0 };
    }

-- no hold, the alarm timer begins at 10,000, the charger timer at 0 (RULES 3.10)
abbrev pub first_timers : Timers
first_timers = record { hold = 0; alarm = 10000; charger = 0 }

-- the pack that set-up gives; no second is complete, none begun (RULES 3.9, 3.10)
unfoldable pub pack_of : Setup → Sample → Pack
pack_of u first =
    record {
      settings = settings_of u;
      host = host_of u;
      latest = latest_of first;
      recent = zero_recent;
      tank = tank_of u;
      timers = first_timers;
    }

-- ---- the all-zero state, part by part

abbrev pub zero_settings : Settings
zero_settings =
    record {
      DesignCapacity = 0;
      DesignVoltage = 0;
      MaxError = 0;
      ManufactureDate = 0;
      SerialNumber = 0;
      ChargingCurrent = 0;
      ChargingVoltage = 0;
      TemperatureLimit = 0;
      DischargeLimit = 0;
      plain = false;
    }

abbrev pub zero_host : Host
zero_host =
    record {
      ManufacturerAccess = 0;
      RemainingCapacityAlarm = 0;
      RemainingTimeAlarm = 0;
      AtRate = 0;
      AlarmMode = false;
      ChargerMode = false;
      CapacityMode = false;
    }

abbrev pub zero_latest : Latest
zero_latest = record { voltage = 0; current = 0; temperature = 0; counter = 0 }

abbrev pub zero_tank : Tank
zero_tank = record { charge = 0; full = 0; CycleCount = 0; FullyDischarged = false; toward = 0; run = record { opened = false; drawn = 0 } }

abbrev pub zero_timers : Timers
zero_timers = record { hold = 0; alarm = 0; charger = 0 }

abbrev pub zero_pack : Pack
zero_pack =
    record {
      settings = zero_settings;
      host = zero_host;
      latest = zero_latest;
      recent = zero_recent;
      tank = zero_tank;
      timers = zero_timers;
    }

abbrev pub zero_state : State
zero_state = record { error = 0; pack = zero_pack }

-- ---- set-up

-- 11 and the all-zero state where refused; else 0 and a state with error code 0 (RULES 1.11)
unfoldable pub set_up_of : Setup → Sample → Answered State
set_up_of u first =
    cond (set_up_refused u) (record { answer = 11; state = zero_state })
    (record { answer = 0; state = record { error = 0; pack = pack_of u first } })
