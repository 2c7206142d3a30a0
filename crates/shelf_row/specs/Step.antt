-- One row more: what it does to the figures of the rows before it, and what these must leave room for.
-- Assumes nothing.
use Rattle.std.specs.Prelude.{ℕ, ◌+◌, ◌*◌, ◌≤◌, ◌<◌, Bool, cond, ltb, if◌then◌else◌, Option, Some, None, Result, Ok, Err}
use Rattle.refusals.specs.declared.Refusal.{Refusal}
use Rattle.refusals.specs.declared.Refusal.TheVariants.{BadRow}
use Rattle.shelf_row.specs.declared.Figures.{Figures}
use Rattle.shelf_row.specs.declared.Lowest.{Lowest}
use Rattle.shelf_row.specs.Rows.{is_bad, is_low}

-- remaining ÷ full is strictly below another's, by products (RULES 13.5)
abbrev pub is_below : Lowest → Lowest → Bool
is_below row other = ltb (row.remaining * other.full) (other.remaining * row.full)

-- the lowest so far and a row: the row only if its ratio is strictly below
abbrev pub lowest_with : Option Lowest → Lowest → Lowest
lowest_with None row = row
lowest_with (Some before) row = if is_below row before then row else before

-- the figures with a row that is not bad
abbrev pub counted_in : Figures → ℕ → ℕ → Figures
counted_in t remaining full =
    record {
      packs = t.packs + 1;
      remaining = t.remaining + remaining;
      full = t.full + full;
      lowest = Some (lowest_with t.lowest (record { remaining = remaining; full = full; place = t.packs }));
      low = t.low + cond (is_low remaining full) 1 0;
    }

-- the figures with a row; 17: it is bad, so there are none (RULES 13.6)
unfoldable pub figures_with : Figures → ℕ → ℕ → ℕ → Result Figures Refusal
figures_with t remaining full design = if is_bad remaining full design then Err BadRow else Ok (counted_in t remaining full)

-- the figures of fewer than 64 rows of words
pub record Fits (t : Figures) : Type 0 where
  pub packs : t.packs < 64
  pub remaining : t.remaining ≤ 65535 * 64
  pub full : t.full ≤ 65535 * 64
  pub low : t.low ≤ 64
