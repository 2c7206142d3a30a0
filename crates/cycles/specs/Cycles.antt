-- Request R-4: the charge that a sample draws, and the cycles that it makes. Charge in mA·ms, capacity in mAh.
-- Assumes nothing.
use Rattle.std.specs.Prelude.{ℕ, ◌+◌, ◌*◌, ◌/◌, ◌%◌, min, cond}
use Rattle.capacity.specs.Capacity.{milliamp_ms}
use Rattle.words.specs.Words.{below, size_of}

-- a sample with current below 0 draws |current| × elapsed, even when charge is already 0 (RULES 7.9)
abbrev pub drawn_by : ℕ → ℕ → ℕ
drawn_by current elapsed = cond (below current) (size_of current * elapsed) 0

-- each design capacity drawn adds one to the cycle number, which stops at 65,535 (RULES 7.10)
abbrev pub cycles_after : ℕ → ℕ → ℕ → ℕ → ℕ
cycles_after design cycles toward drawn = min 65535 (cycles + (toward + drawn) / milliamp_ms design)

-- what is left over is kept toward the next, there too (RULES 7.10)
abbrev pub toward_after : ℕ → ℕ → ℕ → ℕ
toward_after design toward drawn = (toward + drawn) % milliamp_ms design
