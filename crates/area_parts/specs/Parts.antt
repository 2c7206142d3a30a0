-- The parts of an area, each with its own bytes: the widths of its numbers, the numbers of what it holds, and what such
-- numbers hold. A flag is a number of one byte.
-- Assumes nothing.
use Rattle.std.specs.Prelude.{ℕ, Bool, List, [], ◌∷◌, ◌++◌, get_or, take, drop, replicate}
use Rattle.numbers.specs.Numbers.{numbers_bytes, numbers_at, flag_of, flagged, flags}
use Rattle.pack.specs.declared.Host.{Host}
use Rattle.recent.specs.declared.Recent.{Recent}
use Rattle.pack.specs.declared.Latest.{Latest}
use Rattle.pack.specs.declared.Settings.{Settings}
use Rattle.pack.specs.declared.Tank.{Tank}
use Rattle.pack.specs.declared.Timers.{Timers}

-- ---- what set-up fixes: nine words, and the choice plain as a flag

abbrev pub settings_widths : List ℕ
settings_widths = 2 ∷ 2 ∷ 2 ∷ 2 ∷ 2 ∷ 2 ∷ 2 ∷ 2 ∷ 2 ∷ 1 ∷ []

abbrev pub settings_numbers : Settings → List ℕ
settings_numbers s =
    s.DesignCapacity
    ∷ s.DesignVoltage
    ∷ s.MaxError
    ∷ s.ManufactureDate
    ∷ s.SerialNumber
    ∷ s.ChargingCurrent
    ∷ s.ChargingVoltage
    ∷ s.TemperatureLimit
    ∷ s.DischargeLimit
    ∷ flag_of s.plain
    ∷ []

abbrev pub settings_from : List ℕ → Settings
settings_from ns =
    record {
      DesignCapacity = get_or ns 0 0;
      DesignVoltage = get_or ns 1 0;
      MaxError = get_or ns 2 0;
      ManufactureDate = get_or ns 3 0;
      SerialNumber = get_or ns 4 0;
      ChargingCurrent = get_or ns 5 0;
      ChargingVoltage = get_or ns 6 0;
      TemperatureLimit = get_or ns 7 0;
      DischargeLimit = get_or ns 8 0;
      plain = flagged (get_or ns 9 0);
    }

abbrev pub settings_bytes : Settings → List ℕ
settings_bytes s = numbers_bytes settings_widths (settings_numbers s)

abbrev pub settings_in : List ℕ → Settings
settings_in part = settings_from (numbers_at settings_widths part 0)

-- its flag is a flag
abbrev pub is_settings : List ℕ → Bool
is_settings part = flags (drop 9 (numbers_at settings_widths part 0))

-- ---- what the host wrote: four words, and the three bits of BatteryMode as flags

abbrev pub host_widths : List ℕ
host_widths = 2 ∷ 2 ∷ 2 ∷ 2 ∷ 1 ∷ 1 ∷ 1 ∷ []

abbrev pub host_numbers : Host → List ℕ
host_numbers h =
    h.ManufacturerAccess
    ∷ h.RemainingCapacityAlarm
    ∷ h.RemainingTimeAlarm
    ∷ h.AtRate
    ∷ flag_of h.AlarmMode
    ∷ flag_of h.ChargerMode
    ∷ flag_of h.CapacityMode
    ∷ []

abbrev pub host_from : List ℕ → Host
host_from ns =
    record {
      ManufacturerAccess = get_or ns 0 0;
      RemainingCapacityAlarm = get_or ns 1 0;
      RemainingTimeAlarm = get_or ns 2 0;
      AtRate = get_or ns 3 0;
      AlarmMode = flagged (get_or ns 4 0);
      ChargerMode = flagged (get_or ns 5 0);
      CapacityMode = flagged (get_or ns 6 0);
    }

abbrev pub host_bytes : Host → List ℕ
host_bytes h = numbers_bytes host_widths (host_numbers h)

abbrev pub host_in : List ℕ → Host
host_in part = host_from (numbers_at host_widths part 0)

-- its flags are flags
abbrev pub is_host : List ℕ → Bool
is_host part = flags (drop 4 (numbers_at host_widths part 0))

-- ---- what was sampled last: three words, and the counter in 4 bytes

abbrev pub latest_widths : List ℕ
latest_widths = 2 ∷ 2 ∷ 2 ∷ 4 ∷ []

abbrev pub latest_numbers : Latest → List ℕ
latest_numbers l = l.voltage ∷ l.current ∷ l.temperature ∷ l.counter ∷ []

abbrev pub latest_from : List ℕ → Latest
latest_from ns = record { voltage = get_or ns 0 0; current = get_or ns 1 0; temperature = get_or ns 2 0; counter = get_or ns 3 0 }

abbrev pub latest_bytes : Latest → List ℕ
latest_bytes l = numbers_bytes latest_widths (latest_numbers l)

abbrev pub latest_in : List ℕ → Latest
latest_in part = latest_from (numbers_at latest_widths part 0)

-- ---- the tank: the charge in 8 bytes, full capacity, CycleCount, bit 4 of BatteryStatus as a flag; what is drawn toward the
-- next cycle and in the run in 8 bytes each, and that a run is open as a flag

abbrev pub tank_widths : List ℕ
tank_widths = 8 ∷ 2 ∷ 2 ∷ 1 ∷ 8 ∷ 8 ∷ 1 ∷ []

abbrev pub tank_numbers : Tank → List ℕ
tank_numbers t =
    t.charge
    ∷ t.full
    ∷ t.CycleCount
    ∷ flag_of t.FullyDischarged
    ∷ t.toward
    ∷ t.run.drawn
    ∷ flag_of t.run.opened
    ∷ []

abbrev pub tank_from : List ℕ → Tank
tank_from ns =
    record {
      charge = get_or ns 0 0;
      full = get_or ns 1 0;
      CycleCount = get_or ns 2 0;
      FullyDischarged = flagged (get_or ns 3 0);
      toward = get_or ns 4 0;
      run = record { opened = flagged (get_or ns 6 0); drawn = get_or ns 5 0 };
    }

abbrev pub tank_bytes : Tank → List ℕ
tank_bytes t = numbers_bytes tank_widths (tank_numbers t)

abbrev pub tank_in : List ℕ → Tank
tank_in part = tank_from (numbers_at tank_widths part 0)

-- its flags are flags
abbrev pub is_tank : List ℕ → Bool
is_tank part = flags (get_or (numbers_at tank_widths part 0) 3 0 ∷ get_or (numbers_at tank_widths part 0) 6 0 ∷ [])

-- ---- the timers, 4 bytes each

abbrev pub timers_widths : List ℕ
timers_widths = 4 ∷ 4 ∷ 4 ∷ []

abbrev pub timers_numbers : Timers → List ℕ
timers_numbers t = t.hold ∷ t.alarm ∷ t.charger ∷ []

abbrev pub timers_from : List ℕ → Timers
timers_from ns = record { hold = get_or ns 0 0; alarm = get_or ns 1 0; charger = get_or ns 2 0 }

abbrev pub timers_bytes : Timers → List ℕ
timers_bytes t = numbers_bytes timers_widths (timers_numbers t)

abbrev pub timers_in : List ℕ → Timers
timers_in part = timers_from (numbers_at timers_widths part 0)

-- ---- the recent minute: 60 totals of 4 bytes, newest first, how many are kept in 1 byte, the begun second's milliseconds in 2 and its total in 4

abbrev pub recent_widths : List ℕ
recent_widths = replicate 60 4 ++ (1 ∷ 2 ∷ 4 ∷ [])

abbrev pub recent_numbers : Recent → List ℕ
recent_numbers r = r.totals ++ (r.count ∷ r.begun ∷ r.total ∷ [])

abbrev pub recent_from : List ℕ → Recent
recent_from ns = record { totals = take 60 ns; count = get_or ns 60 0; begun = get_or ns 61 0; total = get_or ns 62 0 }

unfoldable pub recent_bytes : Recent → List ℕ
recent_bytes r = numbers_bytes recent_widths (recent_numbers r)

unfoldable pub recent_in : List ℕ → Recent
recent_in part = recent_from (numbers_at recent_widths part 0)
