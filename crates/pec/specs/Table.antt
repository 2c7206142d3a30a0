-- Document 01, PEC: the table of remainders and its rule: tested over all entries, and so of each.
-- Assumes nothing.
use Rattle.std.specs.Prelude.{List, [], ◌∷◌, ◌≡◌, ℕ, zero, suc, ◌<◌, get_or}
use Rattle.pec.specs.Pec.{byte_step}

-- the values of f at the numbers below n, in order
abbrev pub values_below : ℕ → (ℕ → ℕ) → List ℕ
values_below zero f = []
values_below (suc n) f = f zero ∷ values_below n (λ k. f (suc k))

-- the rule as it is tested: the table has 256 entries, the remainders of the bytes 00 to FF in order (RULES 4.3)
abbrev pub TestedRemainders : List ℕ → Type 0
TestedRemainders table = table ≡ values_below 256 byte_step

-- the rule of each entry: the one at a byte is that byte's remainder, what one byte step leaves of it (RULES 4.3)
abbrev pub Remainders : List ℕ → Type 0
Remainders table = (b : ℕ) → b < 256 → get_or table b 0 ≡ byte_step b
