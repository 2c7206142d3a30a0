-- Request R-6: what holds of every division of capacity by rate, the theorems that `proofs/` proves.
-- Assumes nothing.
use Rattle.std.specs.Prelude.{ℕ, ◌*◌, ◌/◌, ◌≤◌, ◌<◌, Bool, ◌&&◌, ◌||◌, ◌⊎◌, ◌≡◌, eqb, ltb}
use Rattle.minutes.specs.Minutes.{time_of, time_word, was_cut_off, given_word, given_answer}
use Rattle.minutes.specs.declared.Given.{Given}
use Rattle.minutes.specs.declared.Given.TheVariants.{Word, Until, NoTime}
use Rattle.minutes.specs.declared.Time.TheVariants.{Minutes, Beyond, NotMoving}

-- beyond the range: the rate flows the command's way, and it rounds to 0 or the minutes are above 65,534 (RULES 6.5, 6.17)
abbrev pub beyond : Bool → ℕ → ℕ → Bool
beyond flows capacity rate = flows && (eqb rate 0 || ltb 65534 (60 * capacity / rate))

-- 1. a time was cut off exactly there
abbrev pub CutOffExactly : Type 0
CutOffExactly = (flows : Bool) (capacity rate : ℕ) → was_cut_off (time_of flows capacity rate) ≡ beyond flows capacity rate

-- 2. its word is below 65,536
abbrev pub TimeWordBelow : Type 0
TimeWordBelow = (flows : Bool) (capacity rate : ℕ) → time_word (time_of flows capacity rate) < 65536

-- what a register gives is answered 0 or 10
abbrev pub ZeroOrTen : Type 0
ZeroOrTen = (g : Given) → (given_answer g ≡ 0) ⊎ (given_answer g ≡ 10)

-- a time of at most 65,534 minutes, beyond them or not moving, or no time
abbrev pub Timed : Given → Type 0
Timed (Word w) = ⊥
Timed (Until (Minutes m)) = m ≤ 65534
Timed (Until Beyond) = Unit {0}
Timed (Until NotMoving) = Unit {0}
Timed NoTime = Unit {0}

-- 3. every division gives such a time
abbrev pub DivisionTimed : Type 0
DivisionTimed = (flows : Bool) (capacity rate : ℕ) → Timed (Until (time_of flows capacity rate))

-- 4. by word and answer it is known: minutes, beyond the range, not moving and no time never look alike
abbrev pub TimesTold : Type 0
TimesTold = (g h : Given) → Timed g → Timed h → given_word g ≡ given_word h → given_answer g ≡ given_answer h → g ≡ h
