-- Request R-1: what holds of every report, the theorems that `proofs/` proves.
-- Assumes nothing.
use Rattle.std.specs.Prelude.{ℕ, ◌+◌, ◌*◌, ◌^◌, ◌≤◌, ◌<◌, cond, ◌⊎◌, ◌↔◌, ◌≡◌, length, get_or, Option, Some, None, Result, Ok, Err, IsOk, IsErr}
use mathlib.Core.List.{List, [], ◌∷◌, ◌++◌, Perm}
use Rattle.refusals.specs.declared.Refusal.{Refusal}
use Rattle.refusals.specs.declared.Refusal.TheVariants.{TooManyRows, BadRow}
use Rattle.refusals.specs.Numbers.{answer_of}
use Rattle.shelf.specs.Shelf.{no_row, at_place, report_of, total_remaining, total_full}
use Rattle.shelf.specs.Ratios.{All, AtMost, Under}
use Rattle.shelf.specs.declared.Row.{Row}
use Rattle.shelf_row.specs.Rows.{is_low, no_rows, shown}
use Rattle.shelf_row.specs.declared.Figures.{Figures}
use Rattle.shelf_row.specs.declared.Lowest.{Lowest}

-- ---- tables

-- a row's numbers are words
pub record OfWords (r : Row) : Type 0 where
  pub remaining : r.remaining < 65536
  pub full : r.full < 65536
  pub design : r.design < 65536
  pub cycles : r.cycles < 65536

-- each row's are
abbrev pub Words : List Row → Type 0
Words rows = All OfWords rows

-- the row at a place, from 0
abbrev pub row : List Row → ℕ → Row
row rows place = get_or rows place no_row

-- ---- totals

-- the rows below one fifth (RULES 13.4)
unfoldable pub low_rows : List Row → List Row
low_rows [] = []
low_rows (r ∷ rows) = cond (is_low r.remaining r.full) (r ∷ low_rows rows) (low_rows rows)

-- the figures are those of the rows
pub record Sums (rows : List Row) (f : Figures) : Type 0 where
  pub packs : f.packs ≡ length rows
  pub remaining : f.remaining ≡ total_remaining rows
  pub full : f.full ≡ total_full rows
  pub low : f.low ≡ length (low_rows rows)

-- 1. of every served table
abbrev pub TotalsAreSums : Type 0
TotalsAreSums = (rows : List Row) (f : Figures) → report_of rows ≡ Ok f → Sums rows f

-- 2. no total of words passes 64 of them, and these are below 2^32; no count passes 64 and no place 63
abbrev pub TotalsFit : Type 0
TotalsFit = (rows : List Row) (f : Figures) → report_of rows ≡ Ok f → Words rows → (f.remaining ≤ 64 * 65535) × (f.full ≤ 64 * 65535) × (64 * 65535 < 2 ^ 32)

abbrev pub CountsFit : Type 0
CountsFit = (rows : List Row) (f : Figures) → report_of rows ≡ Ok f → (f.packs ≤ 64) × (f.low ≤ 64) × ((shown f.lowest).place < 64)

-- ---- the lowest

-- the ratio at a place is at most every row's, and strictly below every earlier one's (RULES 13.3)
pub record IsLowest (rows : List Row) (place : ℕ) : Type 0 where
  pub within : place < length rows
  pub least : (k : ℕ) → k < length rows → AtMost (row rows place) (row rows k)
  pub first : (k : ℕ) → k < place → Under (row rows place) (row rows k)

-- 3. a served table with a row shows such a place, with its row's two numbers
abbrev pub LowestIs : Type 0
LowestIs =
    (rows : List Row) (f : Figures) → report_of rows ≡ Ok f → 0 < length rows
    → (place : ℕ) × (f.lowest ≡ Some (at_place (row rows place) place)) × IsLowest rows place

-- and there is no other
abbrev pub OneLowest : Type 0
OneLowest = (rows : List Row) (p q : ℕ) → IsLowest rows p → IsLowest rows q → p ≡ q

-- lowest has a meaning: this order of rows is reflexive, compares any two, and is transitive through a row whose full is above 0
pub record Ordered : Type 0 where
  pub reflexive : (r : Row) → AtMost r r
  pub comparable : (r s : Row) → AtMost r s ⊎ AtMost s r
  pub transitive : (r s t : Row) → 0 < s.full → AtMost r s → AtMost s t → AtMost r t

-- ---- answers

-- a row whose full or design is 0 or whose remaining exceeds full (RULES 1.17)
abbrev pub Bad : Row → Type 0
Bad r = (r.full ≡ 0) ⊎ ((r.design ≡ 0) ⊎ (r.full < r.remaining))

-- 4. 16 exactly for more than 64 rows
abbrev pub Sixteen : Type 0
Sixteen = (rows : List Row) → (report_of rows ≡ Err TooManyRows) ↔ (64 < length rows)

-- 17 exactly for at most 64 rows of which one is bad
abbrev pub Seventeen : Type 0
Seventeen = (rows : List Row) → (report_of rows ≡ Err BadRow) ↔ ((length rows ≤ 64) × ((k : ℕ) × (k < length rows) × Bad (row rows k)))

-- figures exactly for neither
abbrev pub ServedExactly : Type 0
ServedExactly = (rows : List Row) → IsOk (report_of rows) ↔ ((length rows ≤ 64) × ((k : ℕ) → k < length rows → Bad (row rows k) → ⊥))

-- a refusal is one of these two alone, and so gives no figures (RULES 13.6)
abbrev pub NoFigures : Type 0
NoFigures = (rows : List Row) → IsErr (report_of rows) → (report_of rows ≡ Err TooManyRows) ⊎ (report_of rows ≡ Err BadRow)

-- by number: the answer is 16 exactly for more than 64 rows
abbrev pub SixteenAnswered : Type 0
SixteenAnswered = (rows : List Row) → (answer_of (report_of rows) ≡ 16) ↔ (64 < length rows)

-- 17 exactly for at most 64 rows of which one is bad
abbrev pub SeventeenAnswered : Type 0
SeventeenAnswered = (rows : List Row) → (answer_of (report_of rows) ≡ 17) ↔ ((length rows ≤ 64) × ((k : ℕ) × (k < length rows) × Bad (row rows k)))

-- 0 exactly for neither
abbrev pub ZeroAnswered : Type 0
ZeroAnswered = (rows : List Row) → (answer_of (report_of rows) ≡ 0) ↔ ((length rows ≤ 64) × ((k : ℕ) → k < length rows → Bad (row rows k) → ⊥))

-- ---- order

-- no lowest row in both, or two of one ratio, by products
abbrev pub SameRatio : Option Lowest → Option Lowest → Type 0
SameRatio None None = Unit {0}
SameRatio None (Some m) = ⊥
SameRatio (Some l) None = ⊥
SameRatio (Some l) (Some m) = l.remaining * m.full ≡ m.remaining * l.full

-- the same but for which of those with the lowest ratio is shown, and its place
pub record SameFigures (f g : Figures) : Type 0 where
  pub packs : f.packs ≡ g.packs
  pub remaining : f.remaining ≡ g.remaining
  pub full : f.full ≡ g.full
  pub low : f.low ≡ g.low
  pub lowest : SameRatio f.lowest g.lowest

-- both with such figures, or both refused alike
abbrev pub SameReport : Result Figures Refusal → Result Figures Refusal → Type 0
SameReport (Ok f) (Ok g) = SameFigures f g
SameReport (Ok f) (Err q) = ⊥
SameReport (Err p) (Ok g) = ⊥
SameReport (Err p) (Err q) = p ≡ q

-- 5. the order of the rows changes nothing else
abbrev pub AnyOrder : Type 0
AnyOrder = (xs ys : List Row) → Perm xs ys → SameReport (report_of xs) (report_of ys)

-- figures that add up to those of the whole
pub record Joined (f g whole : Figures) : Type 0 where
  pub packs : whole.packs ≡ f.packs + g.packs
  pub remaining : whole.remaining ≡ f.remaining + g.remaining
  pub full : whole.full ≡ f.full + g.full
  pub low : whole.low ≡ f.low + g.low

-- both parts of a served table are served, and its totals and counts split where it does
abbrev pub Splits : Type 0
Splits =
    (xs ys : List Row) (whole : Figures) → report_of (xs ++ ys) ≡ Ok whole
    → (f : Figures) × ((g : Figures) × ((report_of xs ≡ Ok f) × ((report_of ys ≡ Ok g) × Joined f g whole)))

-- 6. an empty table gives zeros and no lowest row
abbrev pub EmptyTable : Type 0
EmptyTable = report_of [] ≡ Ok no_rows
