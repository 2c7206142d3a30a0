-- Document 01, Transactions and Registers: 16-bit words, their two bytes, and the signed number that one stands for.
-- Assumes nothing.
use Rattle.std.specs.Prelude.{ℕ, ◌+◌, ◌-◌, ◌*◌, ◌/◌, ◌%◌, ◌<◌, Bool, cond, ◌&&◌, ◌≡◌, ltb, leb, pos, nat_abs}
use Rattle.std.specs.Int.Signed.{lt_z}
use Rattle.std.specs.Int.{w16}
use Rattle.std.proofs.Common.{to_z}

-- the low byte of a word
abbrev pub low_of : ℕ → ℕ
low_of w = w % 256

-- the high byte of a word
abbrev pub high_of : ℕ → ℕ
high_of w = w / 256

-- the word of a low and a high byte
abbrev pub joined : ℕ → ℕ → ℕ
joined low high = low + 256 * high

-- the direction of a signed word: above 0
abbrev pub above : ℕ → Bool
above w = ltb 0 w && ltb w 32768

-- the direction of a signed word: below 0
abbrev pub below : ℕ → Bool
below w = leb 32768 w

-- the size of a signed word: 32,768 for 0x8000 (RULES 6.5)
abbrev pub size_of : ℕ → ℕ
size_of w = cond (below w) (65536 - w) w

-- ---- promised: direction and size are those of the integer that the word stands for

abbrev pub AboveTrue : Type 0
AboveTrue = (w : ℕ) → above w ≡ lt_z (pos 0) (to_z w16 w)

abbrev pub BelowTrue : Type 0
BelowTrue = (w : ℕ) → below w ≡ lt_z (to_z w16 w) (pos 0)

abbrev pub SizeTrue : Type 0
SizeTrue = (w : ℕ) → w < 65536 → size_of w ≡ nat_abs (to_z w16 w)
