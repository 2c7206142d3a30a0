-- Request R-6: which word reads are answered 10, and that every word is that of before, R-8 too.
-- Assumes nothing.
use Rattle.std.specs.Prelude.{ℕ, Bool, true, cond, ◌&&◌, ◌||◌, ◌≡◌, eqb}
use Rattle.alarms.specs.Alarms.{remaining_time_low}
use Rattle.gauge.specs.Word.{given_of, word_of, word_answer}
use Rattle.gauge_laws.specs.Before.{time_word_low, word_before}
use Rattle.minutes.specs.Laws.{beyond}
use Rattle.pack.specs.Sound.{sound_of}
use Rattle.pack.specs.declared.Pack.{Pack}
use Rattle.pack.specs.declared.State.{State}
use Rattle.registers.specs.Registers.{average_current, remaining_capacity}
use Rattle.times.specs.Times.{missing, rate_of}
use Rattle.words.specs.Words.{above, below, size_of}

-- 05 in power mode, or 05, 06, 11, 12 or 13 beyond the range (RULES 1.10)
abbrev pub is_ten : Pack → ℕ → Bool
is_ten p command =
    (eqb command 0x05 && (p.host.CapacityMode || beyond (above p.host.AtRate) (missing p) (size_of p.host.AtRate)))
    || (eqb command 0x06 && beyond (below p.host.AtRate) (remaining_capacity p) (size_of p.host.AtRate))
    || (eqb command 0x11 && beyond (below p.latest.current) (remaining_capacity p) (rate_of p p.latest.current))
    || (eqb command 0x12 && beyond (below (average_current p)) (remaining_capacity p) (rate_of p (average_current p)))
    || (eqb command 0x13 && beyond (above (average_current p)) (missing p) (rate_of p (average_current p)))

-- 1. a word read is answered 10 exactly there, else 0
abbrev pub TenExactly : Type 0
TenExactly = (s : State) (command : ℕ) → word_answer s command ≡ cond (is_ten s.pack command) 10 0

-- 2. every word is that of before, for every state; that of 0D, which had a cap, for every sound one
abbrev pub WordsOfBefore : Type 0
WordsOfBefore = (s : State) (command : ℕ) → (command ≡ 0x0D → sound_of s ≡ true) → word_of s command ≡ word_before s command

-- 3. and so is bit 8 of 16, of which the alarms go
abbrev pub TimeBitOfBefore : Type 0
TimeBitOfBefore = (p : Pack) → remaining_time_low p ≡ time_word_low p

-- a command of times
abbrev pub of_times : ℕ → Bool
of_times command = eqb command 0x05 || eqb command 0x06 || eqb command 0x11 || eqb command 0x12 || eqb command 0x13

-- 4. by word and answer what its register gave is known
abbrev pub GivenTold : Type 0
GivenTold =
    (s t : State) (command : ℕ) → of_times command ≡ true → word_of s command ≡ word_of t command → word_answer s command ≡ word_answer t command
    → given_of s command ≡ given_of t command
