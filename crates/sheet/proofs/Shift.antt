-- A row's four bytes, counted by a shift.
-- Assumes nothing.
use Rattle.std.proofs.Common.{◌≡◌, ℕ, ◌*◌, ◌%◌, ◌<◌, arith}

-- four bytes each
pub four_each : (n : ℕ) → n < 4294967296 → n * 4 % 18446744073709551616 ≡ 4 * n
four_each n h = omega arith
