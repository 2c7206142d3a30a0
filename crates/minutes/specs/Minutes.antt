-- Document 01, Registers, and request R-6: capacity by rate, and what a register gives, with its word and its answer.
-- Assumes nothing.
use Rattle.std.specs.Prelude.{ℕ, ◌*◌, ◌/◌, Bool, true, false, cond, not, eqb, ltb}
use Rattle.minutes.specs.declared.Time.{Time}
use Rattle.minutes.specs.declared.Time.TheVariants.{Minutes, Beyond, NotMoving}
use Rattle.minutes.specs.declared.Given.{Given}
use Rattle.minutes.specs.declared.Given.TheVariants.{Word, Until, NoTime}
use Rattle.minutes.specs.declared.Shown.{Shown}

-- capacity by rate: not moving that way unless the rate flows it; a rate that rounds to 0, and floor(60 × capacity ÷ rate) above 65,534, is beyond the range (RULES 6.5, 6.17)
abbrev pub time_of : Bool → ℕ → ℕ → Time
time_of flows capacity rate =
    cond (not flows) NotMoving
    (cond (eqb rate 0) Beyond
    (cond (ltb 65534 (60 * capacity / rate)) Beyond
    (Minutes (60 * capacity / rate))))

-- each case's word: itself, 65,534, 65,535 (RULES 6.5)
abbrev pub time_word : Time → ℕ
time_word (Minutes m) = m
time_word Beyond = 65534
time_word NotMoving = 65535

-- and whether it was cut off (RULES 6.5)
abbrev pub was_cut_off : Time → Bool
was_cut_off (Minutes m) = false
was_cut_off Beyond = true
was_cut_off NotMoving = false

-- the word of what a register gives: 65,535 where there is no time (RULES 6.6)
abbrev pub given_word : Given → ℕ
given_word (Word w) = w
given_word (Until t) = time_word t
given_word NoTime = 65535

-- the answer of a read of it: 10 for a time that was cut off and for no time, else 0 (RULES 1.10)
abbrev pub given_answer : Given → ℕ
given_answer (Word w) = 0
given_answer (Until t) = cond (was_cut_off t) 10 0
given_answer NoTime = 10

-- the answer and the word (RULES 1.10)
abbrev pub given_shown : Given → Shown
given_shown g = record { answer = given_answer g; word = given_word g }
