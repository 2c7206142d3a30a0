-- What is proved of the thirteen-cell pack's areas. (That a store is loaded again, and a load stored again, is in the contracts of `store` and `load`.)
-- Assumes nothing: these are definitions.
use Rattle.std.specs.Prelude.{◌≡◌, true, List, ℕ, ◌<◌, set}
use Rattle.rooms.specs.Rooms.{Bytes}
use Rattle.thirteen_area.specs.Area.{thirteen_area_of, state_in, is_thirteen_area}
use Rattle.thirteen_pack.specs.Fits.{Fits}
use Rattle.thirteen_pack.specs.declared.ThirteenState.{ThirteenState}

-- two areas that hold one state are one (RULES 15.12)
abbrev pub AreasTell : Type 0
AreasTell = (a b : List ℕ) → Bytes a → Bytes b → is_thirteen_area a ≡ true → is_thirteen_area b ≡ true → state_in a ≡ state_in b → a ≡ b

-- the state that bytes hold fits (RULES 15.12)
abbrev pub HeldFits : Type 0
HeldFits = (a : List ℕ) → Bytes a → Fits (state_in a)

-- two states that fit, with a count that is a byte, and with one area are one (RULES 15.12)
abbrev pub StatesTell : Type 0
StatesTell =
    (s t : ThirteenState) → Fits s → Fits t → s.pack.recent.count < 256 → t.pack.recent.count < 256 → thirteen_area_of s ≡ thirteen_area_of t → s ≡ t

-- the error code is the first byte: an area with another there is that of the same pack with that error code (RULES 15.12)
abbrev pub ErrorFirst : Type 0
ErrorFirst = (s : ThirteenState) (code : ℕ) → code < 256 → set (thirteen_area_of s) 0 code ≡ thirteen_area_of (record { error = code; pack = s.pack })
