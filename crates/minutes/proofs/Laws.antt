-- Each case of a division, by its tests.
-- Assumes nothing.
use Prim.Native.Nat.{ℕ, ◌*◌, ◌/◌, ◌≤◌, ◌<◌}
use mathlib.Core.Bool.{Bool, true, false, cond, ◌||◌}
use mathlib.Core.Logic.{inl, inr}
use mathlib.Core.Path.{◌≡◌, refl, ap}
use borrow.Author.Tests.{ltb-false}
use native.Mathlib.Omega.{arith}
use lib.Dec.{eqb, ltb}
use Rattle.minutes.specs.Laws.{Timed, CutOffExactly, TimeWordBelow, ZeroOrTen, DivisionTimed, TimesTold}
use Rattle.minutes.specs.Minutes.{time_of, time_word, was_cut_off}
use Rattle.minutes.specs.declared.Given.TheVariants.{Word, Until, NoTime}
use Rattle.minutes.specs.declared.Time.{Time}
use Rattle.minutes.specs.declared.Time.TheVariants.{Minutes, Beyond, NotMoving}

-- what holds of each case's outcome holds of the division
cases : (P : Time → Type 0) (flows : Bool) (capacity rate : ℕ) → P NotMoving → P Beyond → (60 * capacity / rate ≤ 65534 → P (Minutes (60 * capacity / rate)))
    → P (time_of flows capacity rate)
cases P false capacity rate n b m = n
cases P true capacity rate n b m = go (eqb rate 0) (ltb 65534 q) refl
  where
    q : ℕ
    q = 60 * capacity / rate

    go : (zero over : Bool) → ltb 65534 q ≡ over → P (cond zero Beyond (cond over Beyond (Minutes q)))
    go true over e = b
    go false true e = b
    go false false e = m (ltb-false 65534 q e)

pub cut_off_exactly : CutOffExactly
cut_off_exactly false capacity rate = refl
cut_off_exactly true capacity rate = go (eqb rate 0) (ltb 65534 (60 * capacity / rate))
  where
    go : (zero over : Bool) → was_cut_off (cond zero Beyond (cond over Beyond (Minutes (60 * capacity / rate)))) ≡ (zero || over)
    go true over = refl
    go false true = refl
    go false false = refl

pub zero_or_ten : ZeroOrTen
zero_or_ten (Word w) = inl refl
zero_or_ten (Until (Minutes m)) = inl refl
zero_or_ten (Until Beyond) = inr refl
zero_or_ten (Until NotMoving) = inl refl
zero_or_ten NoTime = inr refl

pub time_word_below : TimeWordBelow
time_word_below flows capacity rate =
    cases (λ t. time_word t < 65536) flows capacity rate (omega arith) (omega arith) (λ h. omega (arith, h))

pub division_timed : DivisionTimed
division_timed flows capacity rate = cases (λ t. Timed (Until t)) flows capacity rate tt tt (λ h. omega (arith, h))

pub times_told : TimesTold
times_told (Word w) h f g e c = absurd f
times_told (Until t) (Word w) f g e c = absurd g
times_told NoTime (Word w) f g e c = absurd g
times_told (Until (Minutes m)) (Until (Minutes n)) f g e c = ap (λ k. Until (Minutes k)) e
times_told (Until (Minutes m)) (Until Beyond) f g e c = absurd (omega (arith, c))
times_told (Until (Minutes m)) (Until NotMoving) f g e c = absurd (omega (arith, f, e))
times_told (Until (Minutes m)) NoTime f g e c = absurd (omega (arith, c))
times_told (Until Beyond) (Until (Minutes n)) f g e c = absurd (omega (arith, c))
times_told (Until Beyond) (Until Beyond) f g e c = refl
times_told (Until Beyond) (Until NotMoving) f g e c = absurd (omega (arith, c))
times_told (Until Beyond) NoTime f g e c = absurd (omega (arith, e))
times_told (Until NotMoving) (Until (Minutes n)) f g e c = absurd (omega (arith, g, e))
times_told (Until NotMoving) (Until Beyond) f g e c = absurd (omega (arith, c))
times_told (Until NotMoving) (Until NotMoving) f g e c = refl
times_told (Until NotMoving) NoTime f g e c = absurd (omega (arith, c))
times_told NoTime (Until (Minutes n)) f g e c = absurd (omega (arith, c))
times_told NoTime (Until Beyond) f g e c = absurd (omega (arith, e))
times_told NoTime (Until NotMoving) f g e c = absurd (omega (arith, c))
times_told NoTime NoTime f g e c = refl
