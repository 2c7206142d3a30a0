-- The average of a sound minute is a signed 16-bit number, and its word one.
-- Assumes nothing.
use Rattle.std.proofs.Common.{◌≡◌, ℕ, zero, suc, ◌*◌, ◌/◌, ◌<◌, ◌≤◌, Bool, true, false, cond, eqb, ℤ, pos, negsuc, neg_ℤ, le_refl, arith, w16, SFits, of_z}
use lib.Signed.{quot_z}
use Rattle.recent.proofs.Integers.{over}
use Rattle.recent.proofs.Soundness.{recent_facts}
use Rattle.recent.proofs.Totals.{can_pos, can_neg, sum_given}
use Rattle.recent.specs.Recent.{can_give, recent_sound, sum_of, average_of}
use Rattle.recent.specs.declared.Recent.{Recent}

minus_fits : (m : ℕ) → m ≤ 32768 → SFits w16 (neg_ℤ (pos m))
minus_fits zero h = record { sfits = omega arith }
minus_fits (suc m) h = record { sfits = omega arith }

-- what n currents can give, over n
pub mean_fits : (n : ℕ) (z : ℤ) → can_give n z ≡ true → SFits w16 (quot_z z (pos n))
mean_fits n (pos a) h = record { sfits = omega (arith, over 32767 a n (can_pos n a h)) }
mean_fits n (negsuc a) h = minus_fits (suc a / n) (over 32768 (suc a) n (can_neg n a h))

word : (z : ℤ) → SFits w16 z → of_z w16 z < 65536
word (pos n) h = omega (arith, h.sfits)
word (negsuc n) h = omega arith

-- the sum of the totals that are kept
pub kept_given : (r : Recent) → recent_sound r ≡ true → can_give (1000 * r.count) (sum_of r.totals r.count) ≡ true
kept_given r h = sum_given r.totals r.count r.count (le_refl r.count) (recent_facts r h).totals

-- 0B is below 65,536
pub average_word : (r : Recent) (latest : ℕ) → recent_sound r ≡ true → latest < 65536 → average_of r latest < 65536
unfolding average_of
average_word r latest h l = go (eqb r.count 0)
  where
    go : (b : Bool) → cond b latest (of_z w16 (quot_z (sum_of r.totals r.count) (pos (1000 * r.count)))) < 65536
    go true = l
    go false = word _ (mean_fits (1000 * r.count) (sum_of r.totals r.count) (kept_given r h))
