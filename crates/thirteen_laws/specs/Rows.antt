-- Request R-10: the answer to a right read and to a right write of each of the 256 commands, row by row.
-- Assumes nothing.
use Rattle.std.specs.Prelude.{ℕ, ◌-◌, Bool, ◌&&◌, ◌||◌, List, ◌∷◌, ◌++◌, eqb, replicate}
use Rattle.minutes.specs.Laws.{beyond}
use Rattle.thirteen_pack.specs.declared.Thirteen.{Thirteen}
use Rattle.thirteen_words.specs.Word.{remaining, average_current}
use Rattle.words.specs.Words.{above, below, size_of}

-- 11 or 13 beyond the range (RULES 1.10, 15.7)
abbrev pub is_cut_off : Thirteen → ℕ → Bool
is_cut_off p command =
    (eqb command 0x11 && beyond (below p.latest.current) (remaining p) (size_of p.latest.current))
    || (eqb command 0x13 && beyond (above (average_current p)) (p.level.full - remaining p) (size_of (average_current p)))

-- 00, 01 to 07, 08 to 0A, 0B and 0C, 0D, 0E to 10, 11, 12, 13, 14 and 15, 16, 17 to 30, 31 to 3D, 3E to 4E, 4F, 50 to 7F, 80 and 81, 82 to 9F, A0 to A2,
-- A3 to F0, F1, F2 to FF; shown is the answer for what is read, time the one for a command of times
abbrev pub rows : ℕ → (ℕ → ℕ) → List ℕ
rows shown time =
    7 ∷ replicate 7 6 ++ replicate 3 shown ++ replicate 2 6 ++ shown ∷ replicate 3 6 ++ time 0x11 ∷ 6 ∷ time 0x13 ∷ replicate 2 6 ++ shown ∷ replicate 26 6
    ++ replicate 13 shown ++ replicate 17 6 ++ shown ∷ replicate 48 6 ++ replicate 2 7 ++ replicate 30 6 ++ replicate 3 7 ++ replicate 78 6 ++ shown ∷ replicate 14 6

-- to a read: 0, or 10 for a time beyond the range
abbrev pub read_rows : (ℕ → ℕ) → List ℕ
read_rows time = rows 0 time

-- to a write: 8
abbrev pub write_rows : List ℕ
write_rows = rows 8 (λ n. 8)
