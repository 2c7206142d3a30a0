-- What the types of fields let them hold.
-- Assumes nothing.
use Rattle.std.specs.Prelude.{ℕ, ◌^◌, ◌<◌, List, ◌≡◌, length}
use Rattle.pack.specs.Fits.{LatestFit}
use Rattle.recent.specs.Fits.{Below, RecentFit}
use Rattle.thirteen_pack.specs.declared.Fixed.{Fixed}
use Rattle.thirteen_pack.specs.declared.Level.{Level}
use Rattle.thirteen_pack.specs.declared.Thirteen.{Thirteen}
use Rattle.thirteen_pack.specs.declared.ThirteenState.{ThirteenState}

-- thirteen words
pub record CellsFit (cells : List ℕ) : Type 0 where
  pub thirteen : length cells ≡ 13
  pub words : Below 65536 cells

pub record FixedFit (f : Fixed) : Type 0 where
  pub DesignCapacity : f.DesignCapacity < 65536
  pub DesignVoltage : f.DesignVoltage < 65536
  pub StateOfHealth : f.StateOfHealth < 65536

pub record LevelFit (l : Level) : Type 0 where
  pub charge : l.charge < 2 ^ 64
  pub full : l.full < 65536

pub record ThirteenFits (p : Thirteen) : Type 0 where
  pub fixed : FixedFit p.fixed
  pub latest : LatestFit p.latest
  pub cells : CellsFit p.cells
  pub level : LevelFit p.level
  pub recent : RecentFit p.recent

pub record Fits (s : ThirteenState) : Type 0 where
  pub error : s.error < 256
  pub pack : ThirteenFits s.pack
