-- Each public function's answer is the lowest number whose condition holds, 0 when none does.
-- Assumes nothing.
use Rattle.std.specs.Prelude.{ℕ, Bool, true, cond, List, ◌≡◌}
use Rattle.std.proofs.Math.Option.{Option}
use Rattle.area.specs.Area.{loaded_of, stored_of}
use Rattle.bus.specs.Transact.{transact_of}
use Rattle.capture.specs.Walk.{opened_of, step_at}
use Rattle.capture_writer.specs.Writer.{capture_wrote}
use Rattle.charger_state.specs.Charger as charger
use Rattle.charger.specs.Transact as charger_bus
use Rattle.charger_state.specs.declared.Charger.{Charger}
use Rattle.charger_area.specs.Area as charger_area
use Rattle.clock.specs.Broadcast.{sample_of}
use Rattle.commands.specs.Answers.{Side, side_answer}
use Rattle.commands.specs.declared.Kind.TheVariants.{ReadOnly}
use Rattle.frame.specs.Transactions.{request_of}
use Rattle.names.specs.Names.{name_in, plain_wrote}
use Rattle.key.specs.Key.{read_key, read_of, found_of}
use Rattle.key_writer.specs.Writing.{key_wrote}
use Rattle.start.specs.SetUp.{set_up_of}
use Rattle.pack.specs.declared.Sample.{Sample}
use Rattle.start.specs.declared.Setup.{Setup}
use Rattle.pack.specs.declared.State.{State}
use Rattle.pec.specs.Messages.{exchange_check, bit_comparison}
use Rattle.refusals.specs.Numbers.{answer_of}
use Rattle.sheet.specs.Block.{block_answer, located_of}
use Rattle.sheet.specs.Sheet.{Entry}
use Rattle.sheet_edit.specs.Edit.{edit_of}
use Rattle.sheet_writer.specs.Writing.{sheet_wrote}
use Rattle.shelf.specs.Shelf.{report_of}
use Rattle.shelf.specs.declared.Row.{Row}
use Rattle.shelf_table.specs.Table.{table_wrote}
use Rattle.answers.specs.Conditions.{command_of, side_conditions, transact_conditions, set_up_conditions, sample_conditions, load_conditions, store_conditions, charger_transact_conditions, charger_sample_conditions, charger_load_conditions, charger_store_conditions, thirteen_transact_conditions, thirteen_sample_conditions, thirteen_load_conditions, thirteen_store_conditions, write_key_conditions, read_key_conditions, unescape_conditions, block_conditions, write_sheet_conditions, edit_conditions, capture_conditions, step_conditions, write_capture_conditions, exchange_conditions, comparison_conditions, report_conditions, table_conditions}
use Rattle.answers.specs.Lowest.{lowest}
use Rattle.thirteen.specs.Transact as thirteen_bus
use Rattle.thirteen_area.specs.Area as thirteen_area
use Rattle.thirteen_pack.specs.Sample as thirteen_sample
use Rattle.thirteen_pack.specs.SetUp as thirteen_start
use Rattle.thirteen_pack.specs.declared.ThirteenState.{ThirteenState}

-- a transaction with any side of the bus, whose blocks are answered 9 where they aren't good, and whose words, read only, 10 where they are cut off
abbrev pub SideLowest : Type 0
SideLowest =
    (d : Side) (read : Bool) (bytes : List ℕ) (room : ℕ) (good cut : Bool)
    → d.block_answer (command_of bytes) ≡ cond good 0 9 → d.word_answer (command_of bytes) ≡ cond cut 10 0
    → (cut ≡ true → d.kinds (command_of bytes) ≡ ReadOnly)
    → side_answer d (request_of d.address read bytes) room ≡ lowest (side_conditions d read bytes room good cut)

-- `transact`
abbrev pub TransactLowest : Type 0
TransactLowest =
    (s : State) (service factory : List ℕ) (read : Bool) (bytes : List ℕ) (room : ℕ)
    → (transact_of s service factory read bytes room).answer ≡ lowest (transact_conditions s service factory read bytes room)

-- `set_up`
abbrev pub SetUpLowest : Type 0
SetUpLowest = (u : Setup) (first : Sample) → (set_up_of u first).answer ≡ lowest (set_up_conditions u)

-- `sample`
abbrev pub SampleLowest : Type 0
SampleLowest = (s : State) (sample : Sample) (room : ℕ) → (sample_of s sample room).answer ≡ lowest (sample_conditions s room)

-- `load` and `store`
abbrev pub LoadLowest : Type 0
LoadLowest = (area : List ℕ) → (loaded_of area).answer ≡ lowest (load_conditions area)

abbrev pub StoreLowest : Type 0
StoreLowest = (s : State) (room : List ℕ) → stored_of s room ≡ lowest (store_conditions s room)

-- the charger's `transact`, `sample`, `load` and `store`
abbrev pub ChargerTransactLowest : Type 0
ChargerTransactLowest =
    (s : Charger) (read : Bool) (bytes : List ℕ) (room : ℕ)
    → (charger_bus.transact_of s read bytes room).answer ≡ lowest (charger_transact_conditions s read bytes room)

abbrev pub ChargerSampleLowest : Type 0
ChargerSampleLowest = (s : Charger) (sample : Sample) → (charger.sample_of s sample).answer ≡ lowest (charger_sample_conditions s)

abbrev pub ChargerLoadLowest : Type 0
ChargerLoadLowest = (area : List ℕ) → (charger_area.loaded_of area).answer ≡ lowest (charger_load_conditions area)

abbrev pub ChargerStoreLowest : Type 0
ChargerStoreLowest = (room : List ℕ) → charger_area.stored_of room ≡ lowest (charger_store_conditions room)

-- the thirteen-cell pack's `set_up`, `transact`, `sample`, `load` and `store`
abbrev pub ThirteenSetUpLowest : Type 0
ThirteenSetUpLowest =
    (u : Setup) (health : ℕ) (first : Sample) (cells : List ℕ) → (thirteen_start.set_up_of u health first cells).answer ≡ lowest (set_up_conditions u)

abbrev pub ThirteenTransactLowest : Type 0
ThirteenTransactLowest =
    (s : ThirteenState) (read : Bool) (bytes : List ℕ) (room : ℕ)
    → (thirteen_bus.transact_of s read bytes room).answer ≡ lowest (thirteen_transact_conditions s read bytes room)

abbrev pub ThirteenSampleLowest : Type 0
ThirteenSampleLowest = (s : ThirteenState) (x : Sample) (cells : List ℕ) → (thirteen_sample.sample_of s x cells).answer ≡ lowest (thirteen_sample_conditions s)

abbrev pub ThirteenLoadLowest : Type 0
ThirteenLoadLowest = (area : List ℕ) → (thirteen_area.loaded_of area).answer ≡ lowest (thirteen_load_conditions area)

abbrev pub ThirteenStoreLowest : Type 0
ThirteenStoreLowest = (s : ThirteenState) (room : List ℕ) → thirteen_area.stored_of s room ≡ lowest (thirteen_store_conditions s room)

-- `write_key`, `read_key`, `find`, `unescape`
abbrev pub WriteKeyLowest : Type 0
WriteKeyLowest = (maker device : List ℕ) (date serial : ℕ) (room : List ℕ) → answer_of (key_wrote maker device date serial room) ≡ lowest (write_key_conditions maker device room)

abbrev pub ReadKeyLowest : Type 0
ReadKeyLowest = (bytes : List ℕ) → answer_of (read_of (read_key bytes)) ≡ lowest (read_key_conditions bytes)

abbrev pub FindLowest : Type 0
FindLowest = (bytes : List ℕ) → answer_of (found_of (read_key bytes)) ≡ lowest (read_key_conditions bytes)

abbrev pub UnescapeLowest : Type 0
UnescapeLowest = (part room : List ℕ) → answer_of (plain_wrote (name_in part) room) ≡ lowest (unescape_conditions part room)

-- `block_answer`, `locate`, `write_sheet`
abbrev pub BlockLowest : Type 0
BlockLowest = (service factory : List ℕ) → answer_of (block_answer service factory) ≡ lowest (block_conditions service factory)

abbrev pub LocateLowest : Type 0
LocateLowest = (service factory : List ℕ) (tag : ℕ) → answer_of (located_of service factory tag) ≡ lowest (block_conditions service factory)

abbrev pub WriteSheetLowest : Type 0
WriteSheetLowest = (es : List Entry) (room : List ℕ) → answer_of (sheet_wrote es room) ≡ lowest (write_sheet_conditions es room)

-- `set` and `remove`
abbrev pub EditLowest : Type 0
EditLowest = (room : List ℕ) (stated tag : ℕ) (to : Option (List ℕ)) → answer_of (edit_of room stated tag to) ≡ lowest (edit_conditions room stated tag to)

-- `open`, `step_at`, `write_capture`
abbrev pub OpenLowest : Type 0
OpenLowest = (bytes : List ℕ) → answer_of (opened_of bytes) ≡ lowest (capture_conditions bytes)

abbrev pub StepLowest : Type 0
StepLowest = (bytes : List ℕ) (row place : ℕ) → answer_of (step_at bytes row place) ≡ lowest (step_conditions bytes row place)

abbrev pub WriteCaptureLowest : Type 0
WriteCaptureLowest = (marks sizes bodies room : List ℕ) → answer_of (capture_wrote marks sizes bodies room) ≡ lowest (write_capture_conditions marks sizes bodies room)

-- `exchange_check`, `bit_comparison`
abbrev pub ExchangeLowest : Type 0
ExchangeLowest = (bytes : List ℕ) → answer_of (exchange_check bytes) ≡ lowest (exchange_conditions bytes)

abbrev pub ComparisonLowest : Type 0
ComparisonLowest = (xs ys : List ℕ) → answer_of (bit_comparison xs ys) ≡ lowest (comparison_conditions xs ys)

-- `report`, `write_report`
abbrev pub ReportLowest : Type 0
ReportLowest = (rows : List Row) → answer_of (report_of rows) ≡ lowest (report_conditions rows)

abbrev pub TableReportLowest : Type 0
TableReportLowest = (table room : List ℕ) → answer_of (table_wrote table room) ≡ lowest (table_conditions table room)
