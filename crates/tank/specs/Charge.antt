-- Document 01, Registers: what a sample does to charge.
-- Assumes nothing.
use Rattle.std.specs.Prelude.{ℕ, ◌+◌, ◌-◌, ◌*◌, min, cond}
use Rattle.capacity.specs.Capacity.{milliamp_ms}
use Rattle.words.specs.Words.{below, size_of}

-- a sample adds current × elapsed to the charge, held between 0 and full (RULES 7.3)
abbrev pub charge_after : ℕ → ℕ → ℕ → ℕ → ℕ
charge_after charge full current elapsed =
    cond (below current) (charge - size_of current * elapsed) (min (milliamp_ms full) (charge + size_of current * elapsed))
