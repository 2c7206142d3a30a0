-- Document 01, PEC: the SMBus packet error code, CRC-8, x^8 + x^2 + x + 1, start 0, high bit first, over every byte of the message in order.
-- Assumes nothing.
use Rattle.std.specs.Prelude.{List, [], ◌∷◌, ℕ, ◌*◌, ◌/◌, ◌%◌}
use Rattle.std.specs.Int.Bits.{bit_xor}

-- one bit step: doubled, and where bit 7 went out as x^8, x^2 + x + 1 (that is 7) comes in by exclusive or (RULES 4.1)
unfoldable pub bit_step : ℕ → ℕ
bit_step x = bit_xor (x * 2 % 256) (x / 128 % 2 * 7)

-- eight of them: one byte (RULES 4.1)
unfoldable pub byte_step : ℕ → ℕ
byte_step x = bit_step (bit_step (bit_step (bit_step (bit_step (bit_step (bit_step (bit_step x)))))))

-- from what stands before, over the bytes in order (RULES 4.2)
unfoldable pub pec_from : ℕ → List ℕ → ℕ
pec_from acc [] = acc
pec_from acc (b ∷ bs) = pec_from (byte_step (bit_xor acc b)) bs

-- start 0 (RULES 4.1, 4.2)
unfoldable pub pec_of : List ℕ → ℕ
pec_of xs = pec_from 0 xs
