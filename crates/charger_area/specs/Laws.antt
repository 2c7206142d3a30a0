-- What is proved of the charger's areas. (That a store is loaded again, and a load stored again, is in the contracts of `store` and `load`.)
-- Assumes nothing: these are definitions.
use Rattle.std.specs.Prelude.{◌≡◌, true, List, ℕ, ◌^◌, ◌<◌}
use Rattle.charger_state.specs.declared.Charger.{Charger}
use Rattle.charger_area.specs.Area.{charger_area_of, charger_in, is_charger_area}
use Rattle.pack.specs.Fits.{LatestFit}
use Rattle.rooms.specs.Rooms.{Bytes}

-- two areas that hold one state are one (RULES 14.12)
abbrev pub AreasTell : Type 0
AreasTell = (a b : List ℕ) → Bytes a → Bytes b → is_charger_area a ≡ true → is_charger_area b ≡ true → charger_in a ≡ charger_in b → a ≡ b

-- what the types of a state's fields let them hold, which is what their widths in an area do
pub record ChargerFits (s : Charger) : Type 0 where
  pub current : s.ChargingCurrent.word < 65536
  pub voltage : s.ChargingVoltage.word < 65536
  pub count : s.count < 2 ^ 32
  pub latest : LatestFit s.latest

-- the state that bytes hold is so
abbrev pub HeldFits : Type 0
HeldFits = (a : List ℕ) → Bytes a → ChargerFits (charger_in a)

-- two such states with one area are one (RULES 14.12)
abbrev pub StatesTell : Type 0
StatesTell = (s t : Charger) → ChargerFits s → ChargerFits t → charger_area_of s ≡ charger_area_of t → s ≡ t
