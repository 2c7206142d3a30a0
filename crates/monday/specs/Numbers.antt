-- A decimal number, read digit by digit: it never wraps.
-- Assumes nothing.
use Rattle.std.specs.Prelude.{ℕ, ◌+◌, ◌*◌, if◌then◌else◌, ltb, Option, Some, None}

-- a number with a digit more, up to 65535
abbrev pub appended : ℕ → ℕ → Option ℕ
appended x digit = if ltb (10 * x + digit) 65536 then Some (10 * x + digit) else None
