-- Which word reads are answered 10, and that every word is that of before.
-- Assumes nothing.
use Prim.Native.Nat.{ℕ, ◌*◌, ◌/◌, min}
use mathlib.Core.Bool.{Bool, true, false, cond, ◌||◌, or-false, true≢false}
use mathlib.Core.Path.{◌≡◌, refl, ap, ◌∙◌, sym, subst}
use borrow.Author.Tests.{ltb-true, ltb-false, eqb-true}
use native.Mathlib.Omega.{arith}
use lib.Dec.{eqb, ltb}
use Rattle.capacity.proofs.Bounds.{either, alike, chosen}
use Rattle.gauge.specs.Word.{given_of, word_of, word_answer}
use Rattle.gauge_laws.proofs.Hundred.{relative_of_before}
use Rattle.gauge_laws.specs.Before.{minutes_if, word_before}
use Rattle.gauge_laws.specs.Minutes.{is_ten, of_times, TenExactly, WordsOfBefore, TimeBitOfBefore, GivenTold}
use Rattle.minutes.proofs.Laws.{cut_off_exactly, division_timed, times_told}
use Rattle.minutes.specs.Laws.{Timed}
use Rattle.minutes.specs.Minutes.{time_of, time_word, given_word, given_answer}
use Rattle.minutes.specs.declared.Given.TheVariants.{Until}
use Rattle.minutes.specs.declared.Time.TheVariants.{Minutes, Beyond}
use Rattle.pack.specs.Sound.{sound_of}
use Rattle.pack.specs.declared.Pack.{Pack}
use Rattle.pack.specs.declared.State.{State}
use Rattle.registers.specs.Registers.{average_current, remaining_capacity}
use Rattle.times.specs.Times.{at_rate_time_to_full, time_to_empty_at, missing, rate_of}
use Rattle.words.specs.Words.{above, below, size_of}

-- a time's word is that of before
word_of_before : (flows : Bool) (capacity rate : ℕ) → time_word (time_of flows capacity rate) ≡ minutes_if flows capacity rate
word_of_before false capacity rate = refl
word_of_before true capacity rate = go (eqb rate 0) (ltb 65534 q) refl
  where
    q : ℕ
    q = 60 * capacity / rate

    go : (zero over : Bool) → ltb 65534 q ≡ over → time_word (cond zero Beyond (cond over Beyond (Minutes q))) ≡ cond zero 65534 (min 65534 q)
    go true over e = refl
    go false true e = omega (arith, ltb-true 65534 q e)
    go false false e = omega (arith, ltb-false 65534 q e)

pub time_bit_of_before : TimeBitOfBefore
time_bit_of_before p = simp word_of_before

either_ten : (b c : Bool) → ◌≡◌ {A = ℕ} (cond b 10 (cond c 10 0)) (cond (b || c) 10 0)
either_ten true c = refl
either_ten false c = refl

-- a property of a command, looked at one key first
pub at : (P : ℕ → Type 0) (command key : ℕ) → P key → (eqb command key ≡ false → P command) → P command
at P command key here else = go (eqb command key) refl
  where
    go : (b : Bool) → eqb command key ≡ b → P command
    go true e = subst P (sym (eqb-true command key e)) here
    go false e = else e

pub words_of_before : WordsOfBefore
unfolding given_of word_before
words_of_before s command =
    at (λ n. (n ≡ 0x0D → sound_of s ≡ true) → word_of s n ≡ word_before s n) command 0x0D (λ h. relative_of_before s (h refl))
    (λ e h. simp (e, chosen given_word, word_of_before))

pub ten_exactly : TenExactly
unfolding given_of
ten_exactly s command =
    at P command 0x05 (simp (chosen given_answer, cut_off_exactly, either_ten, or-false))
    (λ a. at P command 0x06 (simp (cut_off_exactly, or-false))
    (λ b. at P command 0x11 (simp (cut_off_exactly, or-false))
    (λ c. at P command 0x12 (simp (cut_off_exactly, or-false))
    (λ d. at P command 0x13 (simp cut_off_exactly)
    (λ e. simp (a, b, c, d, e, chosen given_answer, alike))))))
  where
    P : ℕ → Type 0
    P n = given_answer (given_of s n) ≡ cond (is_ten s.pack n) 10 0

-- what holds of the five holds where 10 is given
pub of_five : (P : ℕ → Type 0) (p : Pack) (command : ℕ) → is_ten p command ≡ true → P 0x05 → P 0x06 → P 0x11 → P 0x12 → P 0x13 → P command
of_five P p command h v w x y z =
    at P command 0x05 v
    (λ a. at P command 0x06 w
    (λ b. at P command 0x11 x
    (λ c. at P command 0x12 y
    (λ d. at P command 0x13 z
    (λ e. absurd (true≢false (sym h ∙ simp (a, b, c, d, e))))))))

-- the error code decides no answer of a word read
pub same_answer : (s t : State) (command : ℕ) → s.pack ≡ t.pack → word_answer s command ≡ word_answer t command
same_answer s t command e = ten_exactly s command ∙ ap (λ (p : Pack). cond (is_ten p command) 10 0) e ∙ sym (ten_exactly t command)

-- ---- what a command of times gave is known by word and answer

full_timed : (p : Pack) → Timed (at_rate_time_to_full p)
full_timed p = either Timed p.host.CapacityMode _ _ tt (division_timed (above p.host.AtRate) (missing p) (size_of p.host.AtRate))

empty_timed : (p : Pack) (current : ℕ) → Timed (Until (time_to_empty_at p current))
empty_timed p current = division_timed (below current) (remaining_capacity p) (rate_of p current)

timed : (s : State) (command : ℕ) → of_times command ≡ true → Timed (given_of s command)
unfolding given_of
timed s command h =
    at P command 0x05 (full_timed p)
    (λ a. at P command 0x06 (division_timed (below p.host.AtRate) (remaining_capacity p) (size_of p.host.AtRate))
    (λ b. at P command 0x11 (empty_timed p p.latest.current)
    (λ c. at P command 0x12 (empty_timed p (average_current p))
    (λ d. at P command 0x13 (division_timed (above (average_current p)) (missing p) (rate_of p (average_current p)))
    (λ e. absurd (true≢false (sym h ∙ simp (a, b, c, d, e))))))))
  where
    p : Pack
    p = s.pack

    P : ℕ → Type 0
    P n = Timed (given_of s n)

pub given_told : GivenTold
given_told s t command h w c = times_told (given_of s command) (given_of t command) (timed s command h) (timed t command h) w c
