-- Request R-1, a row of the table: when it is bad, when it is below one fifth; and the figures of no rows.
-- Assumes nothing.
use Rattle.std.specs.Prelude.{ℕ, ◌*◌, Bool, ◌||◌, eqb, ltb, if◌then◌else◌, Option, None, Result, Ok, Err, unwrap_or}
use Rattle.refusals.specs.declared.Refusal.{Refusal}
use Rattle.refusals.specs.declared.Refusal.TheVariants.{TooManyRows}
use Rattle.shelf_row.specs.declared.Figures.{Figures}
use Rattle.shelf_row.specs.declared.Lowest.{Lowest}

-- a row whose full or design is 0 or whose remaining exceeds full (RULES 1.17)
abbrev pub is_bad : ℕ → ℕ → ℕ → Bool
is_bad remaining full design = (eqb full 0 || eqb design 0) || ltb full remaining

-- below one fifth: remaining ÷ full is below 1 ÷ 5 (RULES 13.4)
abbrev pub is_low : ℕ → ℕ → Bool
is_low remaining full = ltb (5 * remaining) full

-- more than 64 rows (RULES 1.16)
abbrev pub is_many : ℕ → Bool
is_many rows = ltb 64 rows

-- the figures of no rows: zeros, and no lowest row (RULES 13.3)
abbrev pub no_rows : Figures
no_rows = record { packs = 0; remaining = 0; full = 0; lowest = None; low = 0 }

-- the figures before any row of a table of so many; 16: more than 64 (RULES 13.6)
abbrev pub begun : ℕ → Result Figures Refusal
begun rows = if is_many rows then Err TooManyRows else Ok no_rows

-- the lowest row as its three numbers: of none, zeros (RULES 13.7)
abbrev pub shown : Option Lowest → Lowest
shown lowest = unwrap_or lowest (record { remaining = 0; full = 0; place = 0 })
