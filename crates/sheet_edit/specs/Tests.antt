-- What an edit tells and finds before it looks at how long the new sheet is. Definitions: assumes nothing.
use Rattle.std.specs.Prelude.{Result, List, ℕ, ◌*◌, ◌-◌, leb, get_or, take}
use Rattle.refusals.specs.declared.Refusal.{Refusal}
use Rattle.refusals.specs.declared.Refusal.TheVariants.{BadSheet, BadTag, LongBody}
use Rattle.sheet_steps.specs.declared.Span.{Span}
use Rattle.sheet_steps.specs.Steps.{span_in}
use Rattle.sheet_edit.specs.declared.Found.{Found}
use Rattle.sheet_edit.specs.Edit.{holds_sheet, is_name, require}

-- the first three tests of an edit that brings so many bytes, then what follows
unfoldable pub tested : {A : Type 0} → List ℕ → ℕ → ℕ → ℕ → Result A Refusal → Result A Refusal
tested room stated tag size next = require (holds_sheet room stated) BadSheet (require (is_name tag) BadTag (require (leb size 32) LongBody next))

-- how long a sheet is without a span
abbrev pub without : ℕ → Span → ℕ
without stated p = stated - (p.to - p.from) - 4 * (p.past - p.row)

-- the rows of the sheet, the span of a tag in it, and how long it is without that
unfoldable pub found_in : List ℕ → ℕ → ℕ → Found
found_in room stated tag = record {
  rows = get_or room 0 0;
  span = span_in (take stated room) (get_or room 0 0) tag;
  left = without stated (span_in (take stated room) (get_or room 0 0) tag);
}
