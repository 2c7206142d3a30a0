-- Request R-10: each read-word command of the thirteen-cell pack, its word and its answer.
-- Assumes nothing.
use Rattle.std.specs.Prelude.{ℕ, ◌-◌, ◌/◌, cond, eqb, pos, get_or}
use Rattle.std.specs.Int.Signed.{quot_z}
use Rattle.std.specs.Int.{w16}
use Rattle.std.proofs.Common.{to_z, of_z}
use Rattle.capacity.specs.Capacity.{percent_of}
use Rattle.commands.specs.Commands.{from}
use Rattle.minutes.specs.Minutes.{time_of, given_word, given_answer, given_shown}
use Rattle.minutes.specs.declared.Given.{Given}
use Rattle.minutes.specs.declared.Given.TheVariants.{Word, Until}
use Rattle.minutes.specs.declared.Time.{Time}
use Rattle.recent.specs.Recent.{average_of}
use Rattle.thirteen_pack.specs.declared.Thirteen.{Thirteen}
use Rattle.thirteen_status.specs.Status.{status_of}
use Rattle.minutes.specs.declared.Shown.{Shown}
use Rattle.words.specs.Words.{above, below, size_of}

-- 09: in 10 mV, rounded down (RULES 15.6)
abbrev pub voltage_word : Thirteen → ℕ
voltage_word p = p.latest.voltage / 10

-- 0A: in 10 mA, cut toward zero, signed (RULES 15.6)
abbrev pub current_word : ℕ → ℕ
current_word current = of_z w16 (quot_z (to_z w16 current) (pos 10))

-- 0D: floor(100 × charge ÷ full) (RULES 6.12, 15.7)
abbrev pub relative_state_of_charge : Thirteen → ℕ
relative_state_of_charge p = percent_of p.level.charge p.level.full

-- remaining, in whole mAh (RULES 6.14)
abbrev pub remaining : Thirteen → ℕ
remaining p = p.level.charge / 3600000

-- 11: current below 0, on remaining (RULES 6.16, 15.7)
abbrev pub run_time_to_empty : Thirteen → Time
run_time_to_empty p = time_of (below p.latest.current) (remaining p) (size_of p.latest.current)

-- the minute's average (RULES 6.10)
abbrev pub average_current : Thirteen → ℕ
average_current p = average_of p.recent p.latest.current

-- 13: the average above 0, on full minus remaining (RULES 6.16, 15.7)
abbrev pub average_time_to_full : Thirteen → Time
average_time_to_full p = time_of (above (average_current p)) (p.level.full - remaining p) (size_of (average_current p))

-- 31 to 3D: the voltages of cells 1 to 13 (RULES 15.6)
abbrev pub cell_of : Thirteen → ℕ → ℕ
cell_of p command = get_or p.cells (command - 0x31) 0

-- what a command's register gives; the word 0 for a command that has none (RULES 15.6 to 15.10)
unfoldable pub given_of : Thirteen → ℕ → Given
given_of p command =
    cond (eqb command 0x08) (Word p.latest.temperature)
    (cond (eqb command 0x09) (Word (voltage_word p))
    (cond (eqb command 0x0A) (Word (current_word p.latest.current))
    (cond (eqb command 0x0D) (Word (relative_state_of_charge p))
    (cond (eqb command 0x11) (Until (run_time_to_empty p))
    (cond (eqb command 0x13) (Until (average_time_to_full p))
    (cond (eqb command 0x16) (Word (status_of p))
    (cond (from 0x31 0x3D command) (Word (cell_of p command))
    (cond (eqb command 0x4F) (Word p.fixed.StateOfHealth)
    (Word 0)))))))))

-- its word
abbrev pub word_of : Thirteen → ℕ → ℕ
word_of p command = given_word (given_of p command)

-- the answer of a read of it (RULES 1.10)
abbrev pub word_answer : Thirteen → ℕ → ℕ
word_answer p command = given_answer (given_of p command)

-- the answer and the word
abbrev pub shown_of : Thirteen → ℕ → Shown
shown_of p command = given_shown (given_of p command)
