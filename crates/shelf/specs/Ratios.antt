-- What is said of rows: of each of a table, and of two by their remaining ÷ full.
-- Assumes nothing.
use Rattle.std.specs.Prelude.{◌*◌, ◌≤◌, ◌<◌, List, [], ◌∷◌}
use Rattle.shelf.specs.declared.Row.{Row}

-- every row of a table is so
abbrev pub All : (Row → Type 0) → List Row → Type 0
All P [] = Unit {0}
All P (r ∷ rows) = P r × All P rows

-- a row's remaining ÷ full is at most another's, by products (RULES 13.5)
abbrev pub AtMost : Row → Row → Type 0
AtMost r s = r.remaining * s.full ≤ s.remaining * r.full

-- strictly below another's
abbrev pub Under : Row → Row → Type 0
Under r s = r.remaining * s.full < s.remaining * r.full
