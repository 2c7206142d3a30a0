-- The rows of a table: how many, which stands at a place, and what a turn of the loop over them does.
-- Assumes nothing.
use Rattle.std.proofs.Common.{◌≡◌, refl, sym, ap, ◌∙◌, ℕ, zero, suc, ◌+◌, ◌*◌, ◌/◌, ◌<◌, ◌≤◌, List, length, get_or, Ok, Err, arith}
use Rattle.numbers.specs.Numbers.{number_at}
use Rattle.refusals.specs.declared.Refusal.{Refusal}
use Rattle.shelf.specs.Shelf.{no_row, report_of}
use Rattle.shelf.specs.declared.Row.{Row}
use Rattle.shelf.proofs.Steps.{Read, read_none, read_many, read-fits, read-more, read-bad, read_all}
use Rattle.shelf_row.specs.Rows.{begun}
use Rattle.shelf_row.specs.Step.{figures_with, Fits}
use Rattle.shelf_row.specs.declared.Figures.{Figures}
use Rattle.shelf_table.specs.Table.{row_at, rows_at, rows_in}

from_length : (table : List ℕ) (place n : ℕ) → length (rows_at table place n) ≡ n
from_length table place zero = refl
from_length table place (suc n) = ap suc (from_length table (suc place) n)

from_at : (table : List ℕ) (place n i : ℕ) → i < n → get_or (rows_at table place n) i no_row ≡ row_at table (place + i)
from_at table place zero i h = absurd (omega arith)
from_at table place (suc n) zero h = let e : place + 0 ≡ place = omega arith in rw e
from_at table place (suc n) (suc i) h =
    let e : place + suc i ≡ suc place + i = omega arith in from_at table (suc place) n i (omega arith) ∙ ap (row_at table) (sym e)

module _ (table : List ℕ) where
  pub rows_length : length (rows_in table) ≡ length table / 8
  rows_length = from_length table 0 (length table / 8)

  pub row-at : (i : ℕ) → i < length table / 8 → get_or (rows_in table) i no_row ≡ row_at table i
  row-at i l = from_at table 0 (length table / 8) i l ∙ ap (row_at table) (omega arith)

  -- ---- the loop over them: before any row, after the last, and a turn

  pub none-read : {t : Figures} → begun (length table / 8) ≡ Ok t → Read (rows_in table) 0 t
  none-read {t} e = read_none (rows_in table) (ap begun rows_length ∙ e)

  pub too-many : {e : Refusal} → begun (length table / 8) ≡ Err e → report_of (rows_in table) ≡ Err e
  too-many {e} h = read_many (rows_in table) (ap begun rows_length ∙ h)

  pub all-read : (i : ℕ) {t : Figures} → Read (rows_in table) i t → length table / 8 ≤ i → report_of (rows_in table) ≡ Ok t
  all-read i so h = read_all (rows_in table) i so (omega (arith, rows_length))

  module _ (i : ℕ) {t : Figures} (so : Read (rows_in table) i t) (l : i < length table / 8) where
    within : i < length (rows_in table)
    within = omega (arith, rows_length)

    pub turn-fits : Fits t
    turn-fits = read-fits (rows_in table) i so within

    module _ {remaining full design : ℕ} (a : remaining ≡ number_at 2 table (8 * i)) (b : full ≡ number_at 2 table (8 * i + 2)) (d : design ≡ number_at 2 table (8 * i + 4)) where
      x : Row
      x = get_or (rows_in table) i no_row

      same : (x.remaining ≡ remaining) × ((x.full ≡ full) × (x.design ≡ design))
      unfolding x
      same =
          let f : 8 * i + 4 ≡ 8 * i + 2 + 2 = omega arith in
          rw (row-at i l, a, b, d, f) (refl, (refl, refl))

      here : figures_with t x.remaining x.full x.design ≡ figures_with t remaining full design
      here = rw (same.0, same.1.0, same.1.1)

      pub turn : {u : Figures} → remaining < 65536 → full < 65536 → figures_with t remaining full design ≡ Ok u → Read (rows_in table) (i + 1) u
      unfolding x
      turn {u} r f e = read-more (rows_in table) i so within (rw same.0 r) (rw same.1.0 f) (here ∙ e)

      pub turn-bad : {e : Refusal} → figures_with t remaining full design ≡ Err e → report_of (rows_in table) ≡ Err e
      unfolding x
      turn-bad {e} h = read-bad (rows_in table) i so within (here ∙ h)
