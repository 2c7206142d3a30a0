-- The state in a lent area of 330 bytes, for which document 01 has no rule: the error code, then each part, the one that may grow last; each number low byte first.
--
--   at   bytes
--     0      1  error code
--     1  9 × 2  DesignCapacity, DesignVoltage, MaxError, ManufactureDate, SerialNumber, ChargingCurrent, ChargingVoltage,
--               TemperatureLimit, DischargeLimit
--    19      1  flag: plain
--    20  4 × 2  ManufacturerAccess, RemainingCapacityAlarm, RemainingTimeAlarm, AtRate
--    28  3 × 1  flags: AlarmMode, ChargerMode, CapacityMode
--    31  3 × 2  the latest sample's voltage, current, temperature
--    37      4  its counter
--    41      8  charge
--    49  2 × 2  full capacity, CycleCount
--    53      1  flag: FullyDischarged
--    54      8  drawn toward the next cycle
--    62      8  drawn in the run
--    70      1  flag: a run is open
--    71  3 × 4  hold, alarm timer, charger timer
--    83 60 × 4  the totals of complete seconds, newest first
--   323      1  how many are kept
--   324      2  the begun second's milliseconds
--   326      4  its total
--
-- Assumes nothing.
use Rattle.std.specs.Prelude.{ℕ, ◌+◌, Bool, cond, ◌&&◌, List, ◌++◌, eqb, leb, length}
use Rattle.rooms.specs.Rooms.{between}
use Rattle.numbers.specs.Numbers.{number_bytes, number_at, bytes_taken}
use Rattle.area_parts.specs.Parts.{settings_widths, host_widths, latest_widths, tank_widths, timers_widths, recent_widths, settings_bytes, host_bytes, latest_bytes, tank_bytes, timers_bytes, recent_bytes, settings_in, host_in, latest_in, tank_in, timers_in, recent_in, is_settings, is_host, is_tank}
use Rattle.pack.specs.declared.Answered.{Answered}
use Rattle.start.specs.SetUp.{zero_state}
use Rattle.pack.specs.declared.State.{State}

-- ---- where each part starts, and the bytes that an area has

abbrev pub settings_at : ℕ
settings_at = 1

abbrev pub host_at : ℕ
host_at = settings_at + bytes_taken settings_widths

abbrev pub latest_at : ℕ
latest_at = host_at + bytes_taken host_widths

abbrev pub tank_at : ℕ
tank_at = latest_at + bytes_taken latest_widths

abbrev pub timers_at : ℕ
timers_at = tank_at + bytes_taken tank_widths

abbrev pub recent_at : ℕ
recent_at = timers_at + bytes_taken timers_widths

abbrev pub area_length : ℕ
area_length = recent_at + bytes_taken recent_widths

-- ---- written and read

-- the area that holds a state (RULES 12.1)
unfoldable pub area_of : State → List ℕ
area_of s =
    number_bytes 1 s.error
    ++ settings_bytes s.pack.settings
    ++ host_bytes s.pack.host
    ++ latest_bytes s.pack.latest
    ++ tank_bytes s.pack.tank
    ++ timers_bytes s.pack.timers
    ++ recent_bytes s.pack.recent

-- the state that an area holds (RULES 12.1)
unfoldable pub state_in : List ℕ → State
state_in area =
    record {
      error = number_at 1 area 0;
      pack =
          record {
            settings = settings_in (between area settings_at host_at);
            host = host_in (between area host_at latest_at);
            latest = latest_in (between area latest_at tank_at);
            tank = tank_in (between area tank_at timers_at);
            timers = timers_in (between area timers_at recent_at);
            recent = recent_in (between area recent_at area_length);
          };
    }

-- bytes are an area: as many as one has, each flag 0 or 1 (RULES 12.2)
abbrev pub is_area : List ℕ → Bool
is_area area =
    eqb (length area) area_length && is_settings (between area settings_at host_at) && is_host (between area host_at latest_at) && is_tank (between area tank_at timers_at)

-- ---- the two entries

-- document 01's number where bytes hold no sound state (RULES 1.1)
abbrev pub no_state : ℕ
no_state = 1

-- a state, and that it was loaded
abbrev pub loaded : State → Answered State
loaded s = record { answer = 0; state = s }

-- 0 and the state of an area; of other bytes no state, and the all-zero one
unfoldable pub loaded_of : List ℕ → Answered State
loaded_of area = cond (is_area area) (loaded (state_in area)) (record { answer = no_state; state = zero_state })

-- a state goes into room for an area, if its count of kept seconds is a byte
abbrev pub storable : State → List ℕ → Bool
storable s room = eqb (length room) area_length && leb s.pack.recent.count 255

-- 0 where it goes in
abbrev pub stored_of : State → List ℕ → ℕ
stored_of s room = cond (storable s room) 0 no_state

-- the room afterwards: the state's area, or as it was
unfoldable pub stored_room : State → List ℕ → List ℕ
stored_room s room = cond (storable s room) (area_of s) room
