-- A current that flows for some milliseconds: its part of a total, and the sum.
-- Assumes nothing.
use Rattle.std.proofs.Common.{◌≡◌, ℕ, zero, suc, ◌+◌, ◌-◌, ◌*◌, ◌^◌, ◌<◌, ◌≤◌, true, ℤ, pos, negsuc, ◌+ℤ◌, ◌*ℤ◌, neg_ℤ, ap, ◌∙◌, mul-le-mul, arith, to_z-of_z, w16, w32, SFits, to_z, of_z}
use Rattle.recent.specs.Recent.{can_give, total_sound}
use Rattle.seconds.specs.Seconds.{flowed_of}
use Rattle.recent.proofs.Totals.{can_pos, pos_can, neg_can, sum_can, can_fits}
use Rattle.words.proofs.Integers.{split, low, high}

-- ---- what a current can give

minus_can : (ms p : ℕ) → p ≤ 32768 * ms → can_give ms (neg_ℤ (pos p)) ≡ true
minus_can ms zero h = pos_can ms 0 (omega arith)
minus_can ms (suc n) h = neg_can ms n h

times_most : (u ms most : ℕ) → u ≤ most → u * ms ≤ most * ms
times_most u ms most h = mul-le-mul {n₁ = u} {m₁ = ms} {n₂ = most} {m₂ = ms} h (omega arith)

-- any current
flow_can : (current ms : ℕ) → can_give ms (to_z w16 current *ℤ pos ms) ≡ true
flow_can c ms =
    split c 32768
    (λ h. ap (λ (z : ℤ). can_give ms (z *ℤ pos ms)) (low c h) ∙ pos_can ms (c * ms) (times_most c ms 32767 (omega arith)))
    (λ h. ap (λ (z : ℤ). can_give ms (z *ℤ pos ms)) (high c h)
    ∙ minus_can ms (suc (65536 - suc c) * ms) (times_most (suc (65536 - suc c)) ms 32768 (omega arith)))

-- ---- as words

can_small : (ms : ℕ) (z : ℤ) → ms ≤ 1000 → can_give ms z ≡ true → of_z w32 z < 2 ^ 32
can_small ms (pos n) h k = omega (arith, can_pos ms n k)
can_small ms (negsuc n) h k = omega arith

-- a total of some milliseconds is one of ms more after a current flowed for these
flowed_can : (begun total current ms : ℕ) → total_sound begun total ≡ true → can_give (begun + ms) (to_z w32 total +ℤ to_z w16 current *ℤ pos ms) ≡ true
flowed_can b t c ms h = sum_can b ms (to_z w32 t) (to_z w16 c *ℤ pos ms) h (flow_can c ms)

pub flowed_sound : (begun total current ms : ℕ) → begun + ms ≤ 1000 → total_sound begun total ≡ true
    → total_sound (begun + ms) (flowed_of total current ms) ≡ true
flowed_sound b t c ms l h =
    let k = flowed_can b t c ms h in
    ap (can_give (b + ms)) (to_z-of_z (can_fits (b + ms) (to_z w32 t +ℤ to_z w16 c *ℤ pos ms) (omega arith) k)) ∙ k

pub flowed_small : (begun total current ms : ℕ) → begun + ms ≤ 1000 → total_sound begun total ≡ true → flowed_of total current ms < 2 ^ 32
flowed_small b t c ms l h = can_small (b + ms) (to_z w32 t +ℤ to_z w16 c *ℤ pos ms) l (flowed_can b t c ms h)

-- as the code makes them
pub flow_fits : (current ms : ℕ) → ms ≤ 1000 → SFits w32 (to_z w16 current *ℤ pos ms)
flow_fits c ms h = can_fits ms (to_z w16 c *ℤ pos ms) (omega arith) (flow_can c ms)

pub sum_fits : (total current ms : ℕ) → ms ≤ 1000 → total_sound 1000 total ≡ true → SFits w32 (to_z w32 total +ℤ to_z w16 current *ℤ pos ms)
sum_fits t c ms h k = can_fits (1000 + ms) (to_z w32 t +ℤ to_z w16 c *ℤ pos ms) (omega arith) (flowed_can 1000 t c ms k)
