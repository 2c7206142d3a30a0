-- Document 02, R-2: AverageCurrent as the rule says it, of the current of each millisecond since set-up, the oldest first, without end. There is no state here.
-- (What those milliseconds are, sample by sample, is `milliseconds` in `runs`.)
-- Assumes nothing.
use Rattle.std.specs.Prelude.{ℕ, zero, suc, ◌-◌, ◌/◌, List, [], ◌∷◌, ◌++◌, ℤ, pos, ◌+ℤ◌, length, take, drop}
use Rattle.std.specs.Int.Signed.{quot_z}

-- the first n pieces of a list, each of one size
unfoldable pub cut : ℕ → ℕ → List ℤ → List (List ℤ)
cut size zero l = []
cut size (suc n) l = take size l ∷ cut size n (drop size l)

-- time is cut into whole seconds (RULES 6.10)
unfoldable pub seconds : List ℤ → List (List ℤ)
seconds l = cut 1000 (length l / 1000) l

-- the last 60 complete seconds, or those there are if fewer (RULES 6.10)
abbrev pub last_sixty : List (List ℤ) → List (List ℤ)
last_sixty s = drop (length s - 60) s

-- their milliseconds, one after the other
unfoldable pub in_one : List (List ℤ) → List ℤ
in_one [] = []
in_one (s ∷ ss) = s ++ in_one ss

-- the total of milliseconds
unfoldable pub total_of : List ℤ → ℤ
total_of [] = pos 0
total_of (c ∷ cs) = c +ℤ total_of cs

-- the total divided by the length, cut toward zero; of none, the latest current (RULES 6.10)
unfoldable pub mean_of : List ℤ → ℤ → ℤ
mean_of [] latest = latest
mean_of (c ∷ cs) latest = quot_z (total_of (c ∷ cs)) (pos (length (c ∷ cs)))

-- 0B AverageCurrent: over the last 60 complete seconds (RULES 6.10)
unfoldable pub average_of_all : List ℤ → ℤ → ℤ
average_of_all l latest = mean_of (in_one (last_sixty (seconds l))) latest
