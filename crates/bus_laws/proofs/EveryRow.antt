-- Every command byte has its row: the answer to a right read and to a right write of each of the 256 commands, computed.
-- Assumes nothing.
use Prim.Native.Nat.{ℕ, ◌≤◌, ◌<◌}
use mathlib.Core.Bool.{true, cond}
use mathlib.Core.Path.{◌≡◌, refl, ap, ◌∙◌}
use lib.ListN.{get_or}
use Rattle.bus.specs.Transact.{transact_answer}
use Rattle.bus_laws.proofs.Blocks.{block_number}
use Rattle.bus_laws.specs.Calls.{Call, answer, visit, Reads}
use Rattle.bus_laws.specs.Promises.{ReadRow, WriteRow}
use Rattle.bus_laws.specs.Rows.{read_rows}
use Rattle.commands.specs.Commands.{kind_of}
use Rattle.commands_laws.proofs.Visits.{read_in_rows, write_in_rows}
use Rattle.gauge.specs.Word.{given_of, word_answer}
use Rattle.gauge_laws.proofs.Minutes.{ten_exactly}
use Rattle.gauge_laws.specs.Minutes.{is_ten}
use Rattle.pack.specs.Sound.{sound_of}
use Rattle.pack.specs.declared.State.{State}
use Rattle.sheet.specs.Block.{good_sheets}

rows_by_ten : (s : State) (nine : ℕ) → read_rows (λ n. word_answer s n) nine ≡ read_rows (λ n. cond (is_ten s.pack n) 10 0) nine
rows_by_ten s nine = simp (ten_exactly s)

in_rows : (s : State) (c : Call) (command : ℕ) → command < 256 → sound_of s ≡ true → 34 ≤ c.room → Reads c command
    → answer s c ≡ get_or (read_rows (λ n. word_answer s n) (cond (good_sheets c.service c.factory) 0 9)) command 0
unfolding transact_answer kind_of given_of
in_rows s c command l sound room r =
    read_in_rows (visit s c) command _ refl l (sound, room) r
    ∙ ap (λ nine. get_or (read_rows (λ n. word_answer s n) nine) command 0) (block_number c.service c.factory)

pub read_row : ReadRow
read_row s c command l sound room r = in_rows s c command l sound room r ∙ ap (λ rows. get_or rows command 0) (rows_by_ten s _)

pub write_row : WriteRow
unfolding transact_answer kind_of
write_row s c command word l sound room (r, (checked, w)) = write_in_rows (visit s c) command word checked _ refl l (sound, room) (r, w)
