-- Request R-1: the report over a table of packs, each a row with its remaining, full and design mAh and cycle count (RULES 13.1).
-- Assumes nothing.
use Rattle.std.specs.Prelude.{ℕ, suc, ◌+◌, ◌*◌, Bool, true, false, cond, ◌&&◌, ◌||◌, if◌then◌else◌, List, [], ◌∷◌, leb, length, Option, Some, None, Result, Ok, Err}
use Rattle.refusals.specs.declared.Refusal.{Refusal}
use Rattle.refusals.specs.declared.Refusal.TheVariants.{TooManyRows, BadRow}
use Rattle.shelf.specs.declared.Row.{Row}
use Rattle.shelf_row.specs.Rows.{is_bad, is_low, is_many}
use Rattle.shelf_row.specs.declared.Figures.{Figures}
use Rattle.shelf_row.specs.declared.Lowest.{Lowest}

-- ---- the figures

-- the total of a number over the rows
unfoldable pub total : (Row → ℕ) → List Row → ℕ
total of [] = 0
total of (r ∷ rows) = of r + total of rows

-- total remaining (RULES 13.2)
abbrev pub total_remaining : List Row → ℕ
total_remaining rows = total (λ (r : Row). r.remaining) rows

-- total full (RULES 13.2)
abbrev pub total_full : List Row → ℕ
total_full rows = total (λ (r : Row). r.full) rows

-- how many are below one fifth (RULES 13.4)
abbrev pub low_count : List Row → ℕ
low_count rows = total (λ (r : Row). cond (is_low r.remaining r.full) 1 0) rows

-- a row's remaining ÷ full is at most another's, by products (RULES 13.5)
abbrev pub at_most : Row → Row → Bool
at_most r s = leb (r.remaining * s.full) (s.remaining * r.full)

-- at most every row's
unfoldable pub at_most_all : Row → List Row → Bool
at_most_all r [] = true
at_most_all r (s ∷ rows) = at_most r s && at_most_all r rows

-- a row's two numbers and its place
abbrev pub at_place : Row → ℕ → Lowest
at_place r place = record { remaining = r.remaining; full = r.full; place = place }

-- of the rows from a place on, the first whose ratio is at most every row's of the table
unfoldable pub lowest_from : List Row → ℕ → List Row → Option Lowest
lowest_from table place [] = None
lowest_from table place (r ∷ rows) = if at_most_all r table then Some (at_place r place) else lowest_from table (suc place) rows

-- the lowest remaining ÷ full, its place from 0, the first on a tie (RULES 13.3)
abbrev pub lowest_of : List Row → Option Lowest
lowest_of rows = lowest_from rows 0 rows

-- Monday's figures (RULES 13.2)
abbrev pub figures : List Row → Figures
figures rows =
    record {
      packs = length rows;
      remaining = total_remaining rows;
      full = total_full rows;
      lowest = lowest_of rows;
      low = low_count rows;
    }

-- ---- the report

-- some row is bad
unfoldable pub any_bad : List Row → Bool
any_bad [] = false
any_bad (r ∷ rows) = is_bad r.remaining r.full r.design || any_bad rows

-- 16: more than 64 rows is looked at first; then 17: a bad row; either gives no figures (RULES 13.6)
unfoldable pub report_of : List Row → Result Figures Refusal
report_of rows = if is_many (length rows) then Err TooManyRows else (if any_bad rows then Err BadRow else Ok (figures rows))

-- what is read past the end of a table
abbrev pub no_row : Row
no_row = record { remaining = 0; full = 0; design = 0; cycles = 0 }
