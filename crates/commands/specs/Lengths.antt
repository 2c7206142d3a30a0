-- Document 01, Transactions: how many bytes an exchange has, by its command's row.
-- Assumes nothing.
use Rattle.std.specs.Prelude.{ℕ, ◌≤◌, ◌≡◌}
use Rattle.commands.specs.declared.Kind.{Kind}
use Rattle.commands.specs.declared.Kind.TheVariants.{ReadWrite, ReadOnly, WriteOnly, Block, Optional, Reserved}

-- a word exchange has 6 bytes and a block exchange 5 to 37; optional commands have no set length; a reserved or write-only one has no exchange (RULES 5.5, 5.6, 5.9)
abbrev pub Lengths : Kind → ℕ → Type 0
Lengths ReadWrite n = n ≡ 6
Lengths ReadOnly n = n ≡ 6
Lengths WriteOnly n = ⊥
Lengths Block n = (5 ≤ n) × (n ≤ 37)
Lengths Optional n = Unit {0}
Lengths Reserved n = ⊥
