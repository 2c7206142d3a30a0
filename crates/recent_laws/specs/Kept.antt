-- What the state keeps of the current of each millisecond since set-up, the oldest first.
-- Assumes nothing.
use Rattle.std.specs.Prelude.{ℕ, ◌*◌, min, List, ◌++◌, map, reverse, ℤ, length, take, drop, replicate}
use Rattle.std.specs.Int.{w32}
use Rattle.std.proofs.Common.{of_z}
use Rattle.recent.specs.declared.Recent.{Recent}
use Rattle.recent_laws.specs.Minute.{seconds, total_of}

-- a total as a signed 32-bit number is kept
abbrev pub total_word : List ℤ → ℕ
total_word l = of_z w32 (total_of l)

-- what comes after the last complete second
abbrev pub begun_of : List ℤ → List ℤ
begun_of l = drop (1000 * length (seconds l)) l

-- the totals of the last 60 complete seconds, the newest first, where fewer are there zeros after them; how many; the begun second's length and total (RULES 7.4)
unfoldable pub recent_of : List ℤ → Recent
recent_of l =
    record {
      totals = take 60 (reverse (map total_word (seconds l)) ++ replicate 60 0);
      count = min 60 (length (seconds l));
      begun = length (begun_of l);
      total = total_word (begun_of l);
    }
