-- What is proved of areas, over the definitions of the crate `area`. (That a store is loaded again, and a load stored again,
-- is in the contracts of `store` and `load`.) Assumes nothing: these are definitions.
use Rattle.std.specs.Prelude.{◌≡◌, Bool, true, false, cond, List, ◌∷◌, ◌++◌, ℕ, ◌-◌, ◌≤◌, length, take, drop, replicate}
use Rattle.rooms.specs.Rooms.{Bytes}
use Rattle.numbers.specs.Numbers.{bytes_taken}
use Rattle.area_parts.specs.Parts.{recent_widths}
use Rattle.recent.specs.Recent.{zero_recent}
use Rattle.area.specs.Area.{host_at, timers_at, recent_at, area_length, area_of, state_in, is_area, stored_of}
use Rattle.pack.specs.Choice.{state_as}
use Rattle.pack.specs.Fits.{Fits}
use Rattle.pack.specs.Sound.{sound_of}
use Rattle.pack.specs.declared.State.{State}

-- two areas that hold one state are one
abbrev pub AreasTell : Type 0
AreasTell = (a b : List ℕ) → Bytes a → Bytes b → is_area a ≡ true → is_area b ≡ true → state_in a ≡ state_in b → a ≡ b

-- each number of a state is within its width in an area: what the fields' types hold, and a count that is a byte
pub record InArea (s : State) : Type 0 where
  pub fits : Fits s
  pub count : s.pack.recent.count ≤ 255

-- the state that bytes hold is so
abbrev pub HeldInArea : Type 0
HeldInArea = (a : List ℕ) → Bytes a → InArea (state_in a)

-- two such states with one area are one
abbrev pub StatesTell : Type 0
StatesTell = (s t : State) → InArea s → InArea t → area_of s ≡ area_of t → s ≡ t

-- a sound state goes into room for an area
abbrev pub SoundGoesIn : Type 0
SoundGoesIn = (s : State) (room : List ℕ) → sound_of s ≡ true → length room ≡ area_length → stored_of s room ≡ 0

-- a state whose minute begins anew: no second complete, none begun
abbrev pub minute_anew : State → State
minute_anew s =
    record {
      error = s.error;
      pack =
          record {
            settings = s.pack.settings;
            host = s.pack.host;
            latest = s.pack.latest;
            recent = zero_recent;
            tank = s.pack.tank;
            timers = s.pack.timers;
          };
    }

-- its area is the bytes before the minute with zeros behind them (RULES 12.5)
abbrev pub AreaAnew : Type 0
AreaAnew = (s : State) → area_of (minute_anew s) ≡ take recent_at (area_of s) ++ replicate (bytes_taken recent_widths) 0

-- and it is sound where the state was (RULES 12.5)
abbrev pub SoundAnew : Type 0
SoundAnew = (s : State) → sound_of s ≡ true → sound_of (minute_anew s) ≡ true

-- a state whose counts begin anew: nothing drawn toward the next cycle, no run open
abbrev pub counts_anew : State → State
counts_anew s =
    record {
      error = s.error;
      pack =
          record {
            settings = s.pack.settings;
            host = s.pack.host;
            latest = s.pack.latest;
            recent = s.pack.recent;
            tank =
                record {
                  charge = s.pack.tank.charge;
                  full = s.pack.tank.full;
                  CycleCount = s.pack.tank.CycleCount;
                  FullyDischarged = s.pack.tank.FullyDischarged;
                  toward = 0;
                  run = record { opened = false; drawn = 0 };
                };
            timers = s.pack.timers;
          };
    }

-- its area has 17 zeros before the timers (RULES 12.6)
abbrev pub AreaWithoutCounts : Type 0
AreaWithoutCounts = (s : State) → area_of (counts_anew s) ≡ take (timers_at - 17) (area_of s) ++ replicate 17 0 ++ drop timers_at (area_of s)

-- and it is sound where the state was (RULES 12.6)
abbrev pub SoundWithoutCounts : Type 0
SoundWithoutCounts = (s : State) → sound_of s ≡ true → sound_of (counts_anew s) ≡ true

-- an area with the choice made so has its flag before the host's part, 1 for plain, 0 for PEC, and every other byte as it was (RULES 12.7)
abbrev pub AreaAs : Type 0
AreaAs = (plain : Bool) (s : State) → area_of (state_as plain s) ≡ take (host_at - 1) (area_of s) ++ cond plain 1 0 ∷ drop host_at (area_of s)

-- and it is sound where the state was (RULES 12.7)
abbrev pub SoundAs : Type 0
SoundAs = (plain : Bool) (s : State) → sound_of s ≡ true → sound_of (state_as plain s) ≡ true

-- the error code is the area's first byte: where a call leaves the pack as it was, every other byte of the area stays
abbrev pub ErrorFirst : Type 0
ErrorFirst = (s t : State) → s.pack ≡ t.pack → drop 1 (area_of s) ≡ drop 1 (area_of t)
