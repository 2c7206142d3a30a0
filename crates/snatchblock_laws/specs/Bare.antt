-- Beside the state, a refusal's other numbers are 0: what a C caller gets of a refusal is its answer and nothing above it.
-- Assumes nothing: these are definitions.
use Rattle.std.specs.Prelude.{Bool, false, cond, List, ◌≡◌, ℕ, Result}
use Rattle.std.proofs.Math.Option.{Option}
use Rattle.area.specs.Area.{is_area, no_state}
use Rattle.calls.specs.Calls.{sampled, sample_number, transacted, transact_number}
use Rattle.capture.specs.Walk.{opened_of, step_at}
use Rattle.charger_area.specs.Area.{is_charger_area}
use Rattle.charger_calls.specs.Calls as chargers
use Rattle.commands.specs.Answers.{served}
use Rattle.names.specs.Names.{name_in, plain_wrote}
use Rattle.key.specs.Key.{read_key, read_of}
use Rattle.key_writer.specs.Writing.{key_wrote}
use Rattle.pack.specs.declared.Sample.{Sample}
use Rattle.packed.specs.Packed.{check_number, comparison_number, wrote_number, opened_number, read_number, located_number, step_number}
use Rattle.pec.specs.Messages.{exchange_check, bit_comparison}
use Rattle.refusals.specs.Numbers.{answer_of}
use Rattle.refusals.specs.declared.Refusal.{Refusal}
use Rattle.sheet.specs.Block.{located_of}
use Rattle.sheet.specs.Sheet.{Entry}
use Rattle.sheet_edit.specs.Edit.{edit_of}
use Rattle.sheet_writer.specs.Writing.{sheet_wrote}
use Rattle.shelf_table.specs.Table.{table_wrote}
use Rattle.thirteen_area.specs.Area.{is_thirteen_area}
use Rattle.thirteen_calls.specs.Calls as thirteens

-- where the answer is a refusal, the number is the answer
abbrev pub Bare : ℕ → ℕ → Type 0
Bare answer number = served answer ≡ false → number ≡ answer

abbrev pub WroteBare : Result ℕ Refusal → Type 0
WroteBare r = Bare (answer_of r) (wrote_number r)

-- ---- messages, keys, sheets, captures, the shelf

abbrev pub CheckBare : Type 0
CheckBare = (xs : List ℕ) → Bare (answer_of (exchange_check xs)) (check_number (exchange_check xs))

abbrev pub ComparisonBare : Type 0
ComparisonBare = (xs ys : List ℕ) → Bare (answer_of (bit_comparison xs ys)) (comparison_number (bit_comparison xs ys))

abbrev pub KeyBare : Type 0
KeyBare = (maker device : List ℕ) (date serial : ℕ) (room : List ℕ) → WroteBare (key_wrote maker device date serial room)

abbrev pub NameBare : Type 0
NameBare = (part room : List ℕ) → WroteBare (plain_wrote (name_in part) room)

abbrev pub ReadBare : Type 0
ReadBare = (key : List ℕ) → Bare (answer_of (read_of (read_key key))) (read_number (read_key key))

abbrev pub SheetBare : Type 0
SheetBare = (es : List Entry) (room : List ℕ) → WroteBare (sheet_wrote es room)

abbrev pub EditBare : Type 0
EditBare = (room : List ℕ) (stated tag : ℕ) (to : Option (List ℕ)) → WroteBare (edit_of room stated tag to)

abbrev pub BlockBare : Type 0
BlockBare = (service factory : List ℕ) (tag : ℕ) → Bare (answer_of (located_of service factory tag)) (located_number (located_of service factory tag))

abbrev pub OpenedBare : Type 0
OpenedBare = (s : List ℕ) → Bare (answer_of (opened_of s)) (opened_number (opened_of s))

abbrev pub StepBare : Type 0
StepBare = (s : List ℕ) (row place : ℕ) → Bare (answer_of (step_at s row place)) (step_number place (step_at s row place))

abbrev pub ShelfBare : Type 0
ShelfBare = (table room : List ℕ) → WroteBare (table_wrote table room)

-- ---- the pack (set-up's number is its answer)

abbrev pub SampleBare : Type 0
SampleBare = (area : List ℕ) (sample : Sample) (room : List ℕ) → Bare (cond (is_area area) (sampled area sample room).answer no_state) (sample_number area sample room)

abbrev pub TransactBare : Type 0
TransactBare =
    (area service factory : List ℕ) (read : Bool) (bytes room : List ℕ)
    → Bare (cond (is_area area) (transacted area service factory read bytes room).answer no_state) (transact_number area service factory read bytes room)

-- ---- the charger (set-up's number is its answer)

abbrev pub ChargerSampleBare : Type 0
ChargerSampleBare = (area : List ℕ) (sample : Sample) → Bare (cond (is_charger_area area) (chargers.sampled area sample).answer 1) (chargers.sample_number area sample)

abbrev pub ChargerTransactBare : Type 0
ChargerTransactBare =
    (area : List ℕ) (read : Bool) (bytes room : List ℕ)
    → Bare (cond (is_charger_area area) (chargers.transacted area read bytes room).answer 1) (chargers.transact_number area read bytes room)

abbrev pub ChargerCurrentBare : Type 0
ChargerCurrentBare = (area : List ℕ) → Bare (cond (chargers.sound_in area) 0 1) (chargers.current_number area)

-- ---- the thirteen-cell pack (set-up's number is its answer)

abbrev pub ThirteenSampleBare : Type 0
ThirteenSampleBare =
    (area : List ℕ) (sample : Sample) (cells : List ℕ)
    → Bare (cond (is_thirteen_area area) (thirteens.sampled area sample cells).answer 1) (thirteens.sample_number area sample cells)

abbrev pub ThirteenTransactBare : Type 0
ThirteenTransactBare =
    (area : List ℕ) (read : Bool) (bytes room : List ℕ)
    → Bare (cond (is_thirteen_area area) (thirteens.transacted area read bytes room).answer 1) (thirteens.transact_number area read bytes room)
