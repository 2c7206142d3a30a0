-- Request R-3: products from 16-bit parts.
-- Assumes nothing.
use Rattle.std.specs.Prelude.{ℕ, ◌+◌, ◌*◌, ◌/◌, ◌%◌, ◌≡◌}

-- the parts' sum is the product: of any number split at 2^16, with what is carried in, the low part's product keeps its lowest 16 bits and carries the rest to the high part's (RULES 6.27)
abbrev pub PartsSum : Type 0
PartsSum =
    (high low factor carry : ℕ)
    → (high * 65536 + low) * factor + carry ≡ (high * factor + (low * factor + carry) / 65536) * 65536 + (low * factor + carry) % 65536
