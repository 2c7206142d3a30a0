-- The three cases of a report, and the one that is served.
-- Assumes nothing.
use Rattle.std.proofs.Common.{◌≡◌, ◌≤◌, ◌<◌, Bool, true, false, List, length, Result, Ok, Err, refl, sym, ◌∙◌}
use lib.Dec.{ltb}
use borrow.Author.Tests.{ltb-true, ltb-false}
use Rattle.refusals.specs.declared.Refusal.{Refusal}
use Rattle.refusals.specs.declared.Refusal.TheVariants.{TooManyRows, BadRow}
use Rattle.shelf.specs.Shelf.{any_bad, figures, report_of}
use Rattle.shelf.specs.declared.Row.{Row}
use Rattle.shelf_row.specs.declared.Figures.{Figures}
use Rattle.shelf.proofs.Steps.{report_large, report_bad, report_good}

pub record Good (rows : List Row) : Type 0 where
  pub few : length rows ≤ 64
  pub fine : any_bad rows ≡ false
  pub is : report_of rows ≡ Ok (figures rows)

pub data Case (rows : List Row) : Type 0 where
  large : 64 < length rows → report_of rows ≡ Err TooManyRows → Case rows
  bad : length rows ≤ 64 → any_bad rows ≡ true → report_of rows ≡ Err BadRow → Case rows
  good : Good rows → Case rows

pub good_is : (rows : List Row) → length rows ≤ 64 → any_bad rows ≡ false → Good rows
good_is rows few fine = record { few = few; fine = fine; is = report_good rows few fine }

pub case : (rows : List Row) → Case rows
case rows = by_length (ltb 64 (length rows)) refl
  where
    by-bad : length rows ≤ 64 → (b : Bool) → any_bad rows ≡ b → Case rows
    by-bad few true e = bad few e (report_bad rows few e)
    by-bad few false e = good (good_is rows few e)

    by_length : (b : Bool) → ltb 64 (length rows) ≡ b → Case rows
    by_length true e = let many : 64 < length rows = ltb-true 64 (length rows) e in large many (report_large rows many)
    by_length false e = by-bad (ltb-false 64 (length rows) e) (any_bad rows) refl

-- figures are no refusal
pub not_refused : {reason : Refusal} {f : Figures} → ◌≡◌ {A = Result Figures Refusal} (Err reason) (Ok f) → ⊥
not_refused e = cc

-- a served report's figures are its rows'
pub served : (rows : List Row) (f : Figures) → report_of rows ≡ Ok f → Good rows × (f ≡ figures rows)
served rows f h = by (case rows)
  where
    by : Case rows → Good rows × (f ≡ figures rows)
    by (large many e) = absurd (not_refused (sym e ∙ h))
    by (bad few b e) = absurd (not_refused (sym e ∙ h))
    by (good g) = let z : ◌≡◌ {A = Result Figures Refusal} (Ok f) (Ok (figures rows)) = sym h ∙ g.is in (g, cc)
