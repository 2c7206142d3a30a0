-- Request R-7: the charger's state in a lent area of 23 bytes; each number low byte first, a flag 1 or 0.
--
--   at  bytes
--    0      2  ChargingCurrent, the word last written
--    2  2 × 1  flags: taken, awaited
--    4      2  ChargingVoltage
--    6  2 × 1  flags: taken, awaited
--    8      1  flag: inhibited
--    9      4  the count
--   13     10  the latest sample, as in the pack's area
--
-- Assumes nothing.
use Rattle.std.specs.Prelude.{ℕ, ◌+◌, Bool, cond, ◌&&◌, List, [], ◌∷◌, ◌++◌, eqb, length, get_or, drop}
use Rattle.area_parts.specs.Parts.{latest_widths, latest_bytes, latest_in}
use Rattle.charger_state.specs.Charger.{power_on}
use Rattle.charger_state.specs.declared.Asked.{Asked}
use Rattle.charger_state.specs.declared.Charger.{Charger}
use Rattle.pack.specs.declared.Answered.{Answered}
use Rattle.numbers.specs.Numbers.{number_bytes, numbers_bytes, number_at, numbers_at, bytes_taken, flag_of, flagged, flags}
use Rattle.rooms.specs.Rooms.{between}
use Rattle.start.specs.SetUp.{zero_latest}

-- ---- a request: its word, and the flags taken and awaited

-- the bytes of each (RULES 14.12)
abbrev pub asked_widths : List ℕ
asked_widths = 2 ∷ 1 ∷ 1 ∷ []

-- a request as numbers (RULES 14.12)
abbrev pub asked_numbers : Asked → List ℕ
asked_numbers a = a.word ∷ flag_of a.taken ∷ flag_of a.awaited ∷ []

-- and back (RULES 14.12)
abbrev pub asked_from : List ℕ → Asked
asked_from ns = record { taken = flagged (get_or ns 1 0); word = get_or ns 0 0; awaited = flagged (get_or ns 2 0) }

-- the bytes that hold a request (RULES 14.12)
abbrev pub asked_bytes : Asked → List ℕ
asked_bytes a = numbers_bytes asked_widths (asked_numbers a)

-- the request that bytes hold (RULES 14.12)
abbrev pub asked_in : List ℕ → Asked
asked_in part = asked_from (numbers_at asked_widths part 0)

-- its flags are flags (RULES 14.12)
abbrev pub is_asked : List ℕ → Bool
is_asked part = flags (drop 1 (numbers_at asked_widths part 0))

-- ---- where each part behind the first starts, and the bytes that an area has (RULES 14.12)

abbrev pub voltage_at : ℕ
voltage_at = bytes_taken asked_widths

abbrev pub inhibited_at : ℕ
inhibited_at = voltage_at + bytes_taken asked_widths

abbrev pub count_at : ℕ
count_at = inhibited_at + 1

abbrev pub latest_at : ℕ
latest_at = count_at + 4

abbrev pub charger_length : ℕ
charger_length = latest_at + bytes_taken latest_widths

-- ---- written and read

-- the area that holds a state (RULES 14.12)
unfoldable pub charger_area_of : Charger → List ℕ
charger_area_of s =
    asked_bytes s.ChargingCurrent
    ++ asked_bytes s.ChargingVoltage
    ++ number_bytes 1 (flag_of s.inhibited)
    ++ number_bytes 4 s.count
    ++ latest_bytes s.latest

-- the state that an area holds (RULES 14.12)
unfoldable pub charger_in : List ℕ → Charger
charger_in area =
    record {
      ChargingCurrent = asked_in (between area 0 voltage_at);
      ChargingVoltage = asked_in (between area voltage_at inhibited_at);
      inhibited = flagged (number_at 1 area inhibited_at);
      count = number_at 4 area count_at;
      latest = latest_in (between area latest_at charger_length);
    }

-- bytes are an area: as many as one has, each flag 0 or 1 (RULES 14.12)
abbrev pub is_charger_area : List ℕ → Bool
is_charger_area area =
    eqb (length area) charger_length && is_asked (between area 0 voltage_at) && is_asked (between area voltage_at inhibited_at) && flags (number_at 1 area inhibited_at ∷ [])

-- ---- the two entries

-- the all-zero state (RULES 14.12)
abbrev pub zero_charger : Charger
zero_charger = power_on 0 zero_latest

-- a state, and that it was loaded (RULES 14.12)
abbrev pub loaded : Charger → Answered Charger
loaded s = record { answer = 0; state = s }

-- 0 and the state of an area; of other bytes 1, and the all-zero state (RULES 14.12)
unfoldable pub loaded_of : List ℕ → Answered Charger
loaded_of area = cond (is_charger_area area) (loaded (charger_in area)) (record { answer = 1; state = zero_charger })

-- 0 where room is one for an area, else 1 (RULES 14.12)
abbrev pub stored_of : List ℕ → ℕ
stored_of room = cond (eqb (length room) charger_length) 0 1

-- the room afterwards: the state's area, or as it was (RULES 14.12)
unfoldable pub stored_room : Charger → List ℕ → List ℕ
stored_room s room = cond (eqb (length room) charger_length) (charger_area_of s) room
