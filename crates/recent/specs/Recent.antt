-- Document 02, R-2: the recent minute. Kept are the totals of the last 60 complete seconds since set-up, in mA·ms as signed 32-bit numbers, and of the begun one.
-- (What a sample makes of it is `seconds`; that register 0B is so the rule's average of all milliseconds since set-up, `recent_laws` and `runs`.)
-- Assumes nothing.
use Rattle.std.specs.Prelude.{◌≡◌, ℕ, zero, suc, ◌*◌, ◌<◌, ◌≤◌, Bool, true, cond, ◌&&◌, List, [], ◌∷◌, take, replicate, ℤ, pos, ◌+ℤ◌, neg_ℤ, ◌==◌, int_div, int_le, nat_le, nat_lt, slice_index}
use Rattle.std.specs.Int.{w16, w32}
use Rattle.std.proofs.Common.{to_z, of_z}
use Rattle.recent.specs.declared.Recent.{Recent}

-- none complete, none begun: set-up's, and the all-zero state's (RULES 1.11, 3.10)
abbrev pub zero_recent : Recent
zero_recent = record { totals = replicate 60 0; count = 0; begun = 0; total = 0 }

-- ---- sound

-- what signed 16-bit currents can give in so many milliseconds: −32,768 to 32,767 for each
abbrev pub can_give : ℕ → ℤ → Bool
can_give ms z = int_le (neg_ℤ (pos (32768 * ms))) z && int_le z (pos (32767 * ms))

-- the total of so many milliseconds is such a number
abbrev pub total_sound : ℕ → ℕ → Bool
total_sound ms total = can_give ms (to_z w32 total)

-- each is the total of a second
unfoldable pub totals_sound : List ℕ → Bool
totals_sound [] = true
totals_sound (t ∷ ts) = total_sound 1000 t && totals_sound ts

-- 0 to 60 complete seconds and a begun one under 1,000 ms, each with a total that signed 16-bit currents can give in its length (RULES 3.3)
unfoldable pub recent_sound : Recent → Bool
recent_sound r =
    nat_le r.count 60 && nat_lt r.begun 1000 && totals_sound (take r.count r.totals) && total_sound r.begun r.total

-- the same, fact by fact
pub record RecentFacts (r : Recent) : Type 0 where
  pub most : r.count ≤ 60
  pub begun : r.begun < 1000
  pub totals : totals_sound (take r.count r.totals) ≡ true
  pub total : total_sound r.begun r.total ≡ true

-- ---- AverageCurrent

-- the sum of the first n totals
unfoldable pub sum_of : List ℕ → ℕ → ℤ
sum_of totals zero = pos 0
sum_of totals (suc n) = sum_of totals n +ℤ to_z w32 (slice_index totals n)

-- 0B: the total over the complete seconds divided by their length, cut toward zero; with none, the latest current (RULES 6.10)
unfoldable pub average_of : Recent → ℕ → ℕ
average_of r latest = cond (r.count == 0) latest (of_z w16 (int_div (sum_of r.totals r.count) (pos (1000 * r.count))))
