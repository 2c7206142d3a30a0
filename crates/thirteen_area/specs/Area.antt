-- Request R-10: the thirteen-cell pack's state in a lent area of 301 bytes; each number low byte first, a flag 1 or 0.
--
--   at   bytes
--     0      1  error code
--     1  3 × 2  DesignCapacity, DesignVoltage, StateOfHealth
--     7     10  the latest sample, as in the pack's area
--    17 13 × 2  the cells
--    43      8  charge
--    51      2  full
--    53      1  flag: FullyDischarged
--    54    247  the recent minute, as in the pack's area
--
-- Assumes nothing.
use Rattle.std.specs.Prelude.{ℕ, ◌+◌, Bool, cond, ◌&&◌, List, [], ◌∷◌, ◌++◌, eqb, leb, length, get_or, drop, replicate}
use Rattle.area_parts.specs.Parts.{latest_widths, latest_bytes, latest_in, recent_widths, recent_bytes, recent_in}
use Rattle.numbers.specs.Numbers.{number_bytes, numbers_bytes, number_at, numbers_at, bytes_taken, flag_of, flagged, flags}
use Rattle.rooms.specs.Rooms.{between}
use Rattle.pack.specs.declared.Answered.{Answered}
use Rattle.thirteen_pack.specs.SetUp.{zero_state}
use Rattle.thirteen_pack.specs.declared.Fixed.{Fixed}
use Rattle.thirteen_pack.specs.declared.Level.{Level}
use Rattle.thirteen_pack.specs.declared.ThirteenState.{ThirteenState}

-- ---- what set-up fixes

-- the bytes of each word (RULES 15.12)
abbrev pub fixed_widths : List ℕ
fixed_widths = 2 ∷ 2 ∷ 2 ∷ []

-- what set-up fixes as numbers (RULES 15.12)
abbrev pub fixed_numbers : Fixed → List ℕ
fixed_numbers f = f.DesignCapacity ∷ f.DesignVoltage ∷ f.StateOfHealth ∷ []

-- and back (RULES 15.12)
abbrev pub fixed_from : List ℕ → Fixed
fixed_from ns = record { DesignCapacity = get_or ns 0 0; DesignVoltage = get_or ns 1 0; StateOfHealth = get_or ns 2 0 }

-- the bytes that hold it (RULES 15.12)
abbrev pub fixed_bytes : Fixed → List ℕ
fixed_bytes f = numbers_bytes fixed_widths (fixed_numbers f)

-- what bytes hold of it (RULES 15.12)
abbrev pub fixed_in : List ℕ → Fixed
fixed_in part = fixed_from (numbers_at fixed_widths part 0)

-- ---- the cells

-- the bytes of each cell's voltage (RULES 15.12)
abbrev pub cells_widths : List ℕ
cells_widths = replicate 13 2

-- the bytes that hold the cells (RULES 15.12)
unfoldable pub cells_bytes : List ℕ → List ℕ
cells_bytes cells = numbers_bytes cells_widths cells

-- the cells that bytes hold (RULES 15.12)
unfoldable pub cells_in : List ℕ → List ℕ
cells_in part = numbers_at cells_widths part 0

-- ---- the level: charge, full, and bit 4 of BatteryStatus as a flag

-- the bytes of each (RULES 15.12)
abbrev pub level_widths : List ℕ
level_widths = 8 ∷ 2 ∷ 1 ∷ []

-- the level as numbers (RULES 15.12)
abbrev pub level_numbers : Level → List ℕ
level_numbers l = l.charge ∷ l.full ∷ flag_of l.FullyDischarged ∷ []

-- and back (RULES 15.12)
abbrev pub level_from : List ℕ → Level
level_from ns = record { charge = get_or ns 0 0; full = get_or ns 1 0; FullyDischarged = flagged (get_or ns 2 0) }

-- the bytes that hold the level (RULES 15.12)
abbrev pub level_bytes : Level → List ℕ
level_bytes l = numbers_bytes level_widths (level_numbers l)

-- the level that bytes hold (RULES 15.12)
abbrev pub level_in : List ℕ → Level
level_in part = level_from (numbers_at level_widths part 0)

-- its flag is a flag (RULES 15.12)
abbrev pub is_level : List ℕ → Bool
is_level part = flags (drop 2 (numbers_at level_widths part 0))

-- ---- where each part behind the error code starts, and the bytes that an area has

-- what set-up fixes starts here (RULES 15.12)
abbrev pub fixed_at : ℕ
fixed_at = 1

-- the latest sample starts here (RULES 15.12)
abbrev pub latest_at : ℕ
latest_at = fixed_at + bytes_taken fixed_widths

-- the cells start here (RULES 15.12)
abbrev pub cells_at : ℕ
cells_at = latest_at + bytes_taken latest_widths

-- the level starts here (RULES 15.12)
abbrev pub level_at : ℕ
level_at = cells_at + bytes_taken cells_widths

-- the recent minute starts here (RULES 15.12)
abbrev pub recent_at : ℕ
recent_at = level_at + bytes_taken level_widths

-- the bytes of an area (RULES 15.12)
abbrev pub thirteen_length : ℕ
thirteen_length = recent_at + bytes_taken recent_widths

-- ---- written and read

-- the area that holds a state (RULES 15.12)
unfoldable pub thirteen_area_of : ThirteenState → List ℕ
thirteen_area_of s =
    number_bytes 1 s.error
    ++ fixed_bytes s.pack.fixed
    ++ latest_bytes s.pack.latest
    ++ cells_bytes s.pack.cells
    ++ level_bytes s.pack.level
    ++ recent_bytes s.pack.recent

-- the state that an area holds (RULES 15.12)
unfoldable pub state_in : List ℕ → ThirteenState
state_in area =
    record {
      error = number_at 1 area 0;
      pack =
          record {
            fixed = fixed_in (between area fixed_at latest_at);
            latest = latest_in (between area latest_at cells_at);
            cells = cells_in (between area cells_at level_at);
            level = level_in (between area level_at recent_at);
            recent = recent_in (between area recent_at thirteen_length);
          };
    }

-- bytes are an area: as many as one has, the flag 0 or 1 (RULES 15.12)
abbrev pub is_thirteen_area : List ℕ → Bool
is_thirteen_area area = eqb (length area) thirteen_length && is_level (between area level_at recent_at)

-- ---- the two entries

-- a state, and that it was loaded (RULES 15.12)
abbrev pub loaded : ThirteenState → Answered ThirteenState
loaded s = record { answer = 0; state = s }

-- 0 and the state of an area; of other bytes 1, and the all-zero state (RULES 15.12)
unfoldable pub loaded_of : List ℕ → Answered ThirteenState
loaded_of area = cond (is_thirteen_area area) (loaded (state_in area)) (record { answer = 1; state = zero_state })

-- a state goes into room for an area, if its count of kept seconds is a byte (RULES 15.12)
abbrev pub storable : ThirteenState → List ℕ → Bool
storable s room = eqb (length room) thirteen_length && leb s.pack.recent.count 255

-- 0 where it goes in, else 1 (RULES 15.12)
abbrev pub stored_of : ThirteenState → List ℕ → ℕ
stored_of s room = cond (storable s room) 0 1

-- the room afterwards: the state's area, or as it was (RULES 15.12)
unfoldable pub stored_room : ThirteenState → List ℕ → List ℕ
stored_room s room = cond (storable s room) (thirteen_area_of s) room
