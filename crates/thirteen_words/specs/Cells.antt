-- Request R-10, command F1: all cells.
-- Assumes nothing.
use Rattle.std.specs.Prelude.{ℕ, List, [], ◌∷◌, ◌++◌}
use Rattle.frame.specs.Transactions.{word_body}

-- cells 1 to 13, each low byte first, with no count (RULES 15.8)
abbrev pub cell_bytes : List ℕ → List ℕ
cell_bytes [] = []
cell_bytes (c ∷ cs) = word_body c ++ cell_bytes cs
