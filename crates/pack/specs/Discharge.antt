-- Document 01, Register 16: when a sample's figures say that discharging must end.
-- Assumes nothing.
use Rattle.std.specs.Prelude.{ℕ, Bool, ◌&&◌, ltb}
use Rattle.words.specs.Words.{below}

-- TERMINATE_DISCHARGE: current below 0, voltage below its limit (RULES 6.20)
abbrev pub discharge_ends : ℕ → ℕ → ℕ → Bool
discharge_ends voltage current limit = below current && ltb voltage limit
