-- Document 01, Transactions: the answer to a right read and to a right write of each of the 256 commands, row by row.
-- Assumes nothing.
use Rattle.std.specs.Prelude.{ℕ, List, ◌∷◌, ◌++◌, replicate}

-- 24 to 2E, 2F, 30 to 3B, 3C to 3F, 40 to FF: to reads and writes alike
abbrev pub above23 : List ℕ
above23 = replicate 11 6 ++ 7 ∷ replicate 12 6 ++ replicate 4 7 ++ replicate 192 6

-- to a read: 00 to 04, 05, 06, 07 to 10, 11, 12, 13, 14 to 1C, 1D to 1F, 20 to 23, the rest; ten gives the answer for a command of times, nine is the one for a block
abbrev pub read_rows : (ℕ → ℕ) → ℕ → List ℕ
read_rows ten nine =
    replicate 5 0 ++ ten 0x05 ∷ ten 0x06 ∷ replicate 10 0 ++ ten 0x11 ∷ ten 0x12 ∷ ten 0x13 ∷ replicate 9 0
    ++ replicate 3 6 ++ replicate 4 nine ++ above23

-- to a write: 00 to 04, 05 to 1C, 1D to 1F, 20 to 23, the rest
abbrev pub write_rows : List ℕ
write_rows = replicate 5 0 ++ replicate 24 8 ++ replicate 3 6 ++ replicate 4 8 ++ above23
