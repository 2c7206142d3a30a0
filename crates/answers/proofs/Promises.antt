-- Each public function's answer is the lowest number whose condition holds.
-- Assumes nothing.
use Prim.Native.Nat.{ℕ}
use mathlib.Core.Bool.{Bool, true, false, cond, not, ◌&&◌, ◌||◌, true≢false}
use mathlib.Core.List.{List, [], ◌∷◌}
use mathlib.Core.Option.{Option, none, some}
use mathlib.Core.Path.{◌≡◌, refl, sym, ◌∙◌, ap}
use native.Mathlib.Omega.{arith}
use borrow.Author.Tests.{leb-true, leb-false, lt-ltb, le-ltb}
use lib.Dec.{eqb, ltb, leb}
use lib.ListN.{length, get_or}
use Rattle.area.specs.Area.{is_area, storable, loaded_of}
use Rattle.bus_laws.proofs.Ten.{ten_read_only}
use Rattle.bus.specs.Transact.{pack_side, transact_answer, transact_of}
use Rattle.capacity.proofs.Bounds.{alike}
use Rattle.capture.specs.Capture.{is_capture}
use Rattle.capture.specs.Walk.{opened_of, seen_bad}
use Rattle.capture_writer.specs.Writer.{capture_wrote, capture_given, given_fit, room_asked}
use Rattle.capture_laws.proofs.Walked.{step_answer}
use Rattle.charger_state.specs.Charger as charger
use Rattle.charger.specs.Transact as charger_bus
use Rattle.charger_state.specs.declared.Charger.{Charger}
use Rattle.charger_area.specs.Area as charger_area
use Rattle.clock.specs.Broadcast.{sample_of}
use Rattle.commands.specs.Answers.{Side, side_answer, bare, request_answer, read_answer, write_answer}
use Rattle.commands.specs.Commands.{is_reserved, is_optional, is_block}
use Rattle.commands.specs.declared.Kind.{Kind}
use Rattle.commands.specs.declared.Kind.TheVariants.{ReadWrite, ReadOnly, WriteOnly, Block, Optional, Reserved}
use Rattle.gauge_laws.specs.Minutes.{is_ten}
use Rattle.frame.specs.Transactions.{request_of, foreign, misshapen, miscoded, write_of}
use Rattle.frame.specs.declared.Request.TheVariants.{Refused, Read}
use Rattle.names.specs.Names.{name_in, plain_wrote}
use Rattle.key.specs.Key.{Parts, read_key, read_of, found_of}
use Rattle.key_writer.specs.Writing.{key_wrote, refused}
use Rattle.start.specs.SetUp.{set_up_of, set_up_refused}
use Rattle.pack.specs.declared.Answered.{Answered}
use Rattle.pack.specs.declared.State.{State}
use Rattle.clock.specs.declared.Sampled.{Sampled}
use Rattle.capture.specs.declared.Opened.{Opened}
use Rattle.pec.specs.Messages.{ends_in_pec}
use Rattle.pack.specs.Sound.{sound_of}
use Rattle.refusals.specs.Numbers.{answer_of}
use Rattle.refusals.specs.declared.Refusal.{Refusal}
use Rattle.refusals.specs.declared.Refusal.TheVariants.{SmallRoom, WrongForm, BadSheet, NotACapture, TooManyRows, BadRow, BadTag, LongBody, LongSheet}
use Rattle.sheet.specs.Block.{good_sheets, located_of}
use Rattle.sheet.specs.declared.Located.{Located}
use Rattle.sheet_edit.specs.Edit.{holds_sheet, sheet_after, is_name, size_of, require, edit_of}
use Rattle.sheet_writer.specs.Writing.{sheet_wrote, writable, short}
use Rattle.shelf.specs.Shelf.{any_bad, figures, report_of}
use Rattle.shelf.specs.declared.Row.{Row}
use Rattle.shelf_row.specs.declared.Figures.{Figures}
use Rattle.shelf_table.specs.Table.{rows_in, is_ragged, bytes_told, table_report}
use Rattle.gauge_laws.proofs.Minutes.{at, ten_exactly}
use Rattle.thirteen.specs.Commands.{thirteen_kind}
use Rattle.thirteen.specs.Transact as thirteen_bus
use Rattle.thirteen_area.specs.Area as thirteen_area
use Rattle.thirteen_laws.proofs.Rows.{cut_off_exactly}
use Rattle.thirteen_laws.specs.Rows.{is_cut_off}
use Rattle.thirteen_pack.specs.Sample as thirteen_sample
use Rattle.thirteen_pack.specs.SetUp as thirteen_start
use Rattle.thirteen_pack.specs.Sound as thirteen
use Rattle.thirteen_pack.specs.declared.Thirteen.{Thirteen}
use Rattle.thirteen_pack.specs.declared.ThirteenState.{ThirteenState}
use Rattle.answers.specs.Conditions.{command_of, is_denied, side_conditions, is_none, overflows, edit_conditions, table_conditions}
use Rattle.answers.specs.Lowest.{◌when◌, lowest, all_above, rising, first_holding}
use Rattle.answers.specs.Promises.{SideLowest, TransactLowest, SetUpLowest, SampleLowest, LoadLowest, StoreLowest, ChargerTransactLowest, ChargerSampleLowest, ChargerLoadLowest, ChargerStoreLowest, ThirteenSetUpLowest, ThirteenTransactLowest, ThirteenSampleLowest, ThirteenLoadLowest, ThirteenStoreLowest, WriteKeyLowest, ReadKeyLowest, FindLowest, UnescapeLowest, BlockLowest, LocateLowest, WriteSheetLowest, EditLowest, OpenLowest, StepLowest, WriteCaptureLowest, ExchangeLowest, ComparisonLowest, ReportLowest, TableReportLowest}
use Rattle.std.specs.Prelude.{Result, Ok, Err}
use Rattle.answers.proofs.Lowest.{first_is_lowest}
use Rattle.bus_laws.proofs.Blocks.{block_number}

-- ---- one condition

one : (n : ℕ) (c : Bool) → cond c n 0 ≡ lowest ((n when c) ∷ [])
unfolding lowest
one n true = refl
one n false = refl

-- the same where it is said what is served
unless : (n : ℕ) (c : Bool) → cond c 0 n ≡ lowest ((n when not c) ∷ [])
unfolding lowest
unless n true = refl
unless n false = refl

-- two of them, in order
two : (m n : ℕ) (a b : Bool) → rising ((m when a) ∷ (n when b) ∷ []) ≡ true → cond a m (cond b n 0) ≡ lowest ((m when a) ∷ (n when b) ∷ [])
unfolding first_holding
two m n a b h = sym (first_is_lowest ((m when a) ∷ (n when b) ∷ []) h)

-- the answer of what is given where a condition holds, and where it doesn't
answers : {A : Type 0} (f : A → ℕ) (c : Bool) (x y : A) → f (cond c x y) ≡ cond c (f x) (f y)
answers f true x y = refl
answers f false x y = refl

pub set_up_lowest : SetUpLowest
unfolding set_up_of
set_up_lowest u first = answers {A = Answered State} (λ r. r.answer) (set_up_refused u) _ _ ∙ one 11 (set_up_refused u)

pub sample_lowest : SampleLowest
unfolding sample_of rising all_above
sample_lowest s sample room =
    let small = ltb room (cond s.pack.settings.plain 16 20) in
    answers {A = Sampled} (λ r. r.answer) (not (sound_of s)) _ _
    ∙ ap (cond (not (sound_of s)) 1) (answers {A = Sampled} (λ r. r.answer) small _ _)
    ∙ two 1 2 (not (sound_of s)) small refl

pub load_lowest : LoadLowest
unfolding loaded_of
load_lowest area = answers {A = Answered State} (λ r. r.answer) (is_area area) _ _ ∙ unless 1 (is_area area)

pub store_lowest : StoreLowest
store_lowest s room = unless 1 (storable s room)

pub charger_sample_lowest : ChargerSampleLowest
unfolding charger.sample_of
charger_sample_lowest s sample = answers {A = Answered Charger} (λ r. r.answer) (not (charger.sound_of s)) _ _ ∙ one 1 (not (charger.sound_of s))

pub charger_load_lowest : ChargerLoadLowest
unfolding charger_area.loaded_of
charger_load_lowest area = answers {A = Answered Charger} (λ r. r.answer) (charger_area.is_charger_area area) _ _ ∙ unless 1 (charger_area.is_charger_area area)

pub charger_store_lowest : ChargerStoreLowest
charger_store_lowest room = unless 1 (eqb (length room) charger_area.charger_length)

pub thirteen_set_up_lowest : ThirteenSetUpLowest
unfolding thirteen_start.set_up_of
thirteen_set_up_lowest u health first cells = answers {A = Answered ThirteenState} (λ r. r.answer) (set_up_refused u) _ _ ∙ one 11 (set_up_refused u)

pub thirteen_sample_lowest : ThirteenSampleLowest
unfolding thirteen_sample.sample_of
thirteen_sample_lowest s x cells = answers {A = Answered ThirteenState} (λ r. r.answer) (not (thirteen.sound_of s)) _ _ ∙ one 1 (not (thirteen.sound_of s))

pub thirteen_load_lowest : ThirteenLoadLowest
unfolding thirteen_area.loaded_of
thirteen_load_lowest area = answers {A = Answered ThirteenState} (λ r. r.answer) (thirteen_area.is_thirteen_area area) _ _ ∙ unless 1 (thirteen_area.is_thirteen_area area)

pub thirteen_store_lowest : ThirteenStoreLowest
thirteen_store_lowest s room = unless 1 (thirteen_area.storable s room)

pub write_key_lowest : WriteKeyLowest
unfolding key_wrote refused
write_key_lowest maker device date serial room = answers {A = Result ℕ Refusal} answer_of (refused maker device room) _ _ ∙ one 12 (refused maker device room)

read_lowest : (o : Option Parts) → answer_of (read_of o) ≡ lowest ((13 when is_none o) ∷ [])
read_lowest none = one 13 true
read_lowest (some p) = one 13 false

pub read_key_lowest : ReadKeyLowest
read_key_lowest bytes = read_lowest (read_key bytes)

found_as_read : (o : Option Parts) → answer_of (found_of o) ≡ answer_of (read_of o)
found_as_read none = refl
found_as_read (some p) = refl

pub find_lowest : FindLowest
find_lowest bytes = found_as_read (read_key bytes) ∙ read_key_lowest bytes

plain_lowest : (o : Option (List ℕ)) (room : List ℕ) → answer_of (plain_wrote o room) ≡ lowest ((12 when overflows o room) ∷ (13 when is_none o) ∷ [])
unfolding rising all_above
plain_lowest none room = two 12 13 false true refl
plain_lowest (some name) room = answers {A = Result ℕ Refusal} answer_of (ltb (length room) (length name)) _ _ ∙ two 12 13 (ltb (length room) (length name)) false refl

pub unescape_lowest : UnescapeLowest
unescape_lowest part room = plain_lowest (name_in part) room

pub block_lowest : BlockLowest
block_lowest service factory = block_number service factory ∙ unless 9 (good_sheets service factory)

pub locate_lowest : LocateLowest
unfolding located_of
locate_lowest service factory tag =
    answers {A = Result Located Refusal} answer_of (good_sheets service factory) _ _
    ∙ unless 9 (good_sheets service factory)

-- what isn't at least a number is below it
not_at_least : (a b : ℕ) → not (leb a b) ≡ ltb b a
not_at_least a b = tested (leb a b) refl
  where
    tested : (c : Bool) → leb a b ≡ c → not c ≡ ltb b a
    tested true h = sym (le-ltb b a (leb-true a b h))
    tested false h = sym (lt-ltb b a (leb-false a b h))

-- not both is one or the other not
not_both : (a b c : Bool) → not b ≡ c → not (a && b) ≡ not a || c
not_both true b c h = h
not_both false b c h = refl

pub write_sheet_lowest : WriteSheetLowest
unfolding sheet_wrote writable
write_sheet_lowest es room =
    answers {A = Result ℕ Refusal} answer_of (writable es room) _ _
    ∙ unless 12 (writable es room)
    ∙ ap (λ c. lowest ((12 when c) ∷ [])) (not_both (short es) (leb 145 (length room)) (ltb (length room) 145) (not_at_least 145 (length room)))

-- four tests, each passed or the answer
by_tests : (a b c d : Bool) (n : ℕ)
    → answer_of (require a BadSheet (require b BadTag (require c LongBody (require d LongSheet (Ok n)))))
    ≡ first_holding ((9 when not a) ∷ (18 when not b) ∷ (19 when not c) ∷ (20 when not d) ∷ [])
unfolding first_holding
by_tests true true true true n = refl
by_tests true true true false n = refl
by_tests true true false d n = refl
by_tests true false c d n = refl
by_tests false b c d n = refl

pub edit_lowest : EditLowest
unfolding edit_of rising all_above
edit_lowest room stated tag to =
    let new = length (sheet_after room stated tag to) in
    by_tests (holds_sheet room stated) (is_name tag) (leb (size_of to) 32) (leb new (length room)) new
    ∙ rw (not_at_least (size_of to) 32, not_at_least new (length room)) (sym (first_is_lowest (edit_conditions room stated tag to) refl))

pub open_lowest : OpenLowest
unfolding opened_of
open_lowest bytes = answers {A = Result Opened Refusal} answer_of (is_capture bytes) _ _ ∙ unless 14 (is_capture bytes)

pub step_lowest : StepLowest
step_lowest bytes row place = step_answer bytes row place ∙ one 14 (seen_bad bytes row place)

in_order : (a b : Bool) (n : ℕ)
    → answer_of (cond {A = Result ℕ Refusal} a (cond b (Ok n) (Err NotACapture)) (Err SmallRoom)) ≡ cond (not a) 2 (cond (not b) 14 0)
in_order true true n = refl
in_order true false n = refl
in_order false b n = refl

pub write_capture_lowest : WriteCaptureLowest
unfolding capture_wrote rising all_above
write_capture_lowest marks sizes bodies room =
    let enough = leb (room_asked marks sizes bodies) (length room) in
    in_order enough (given_fit marks sizes bodies) (length (capture_given marks sizes bodies))
    ∙ two 2 14 (not enough) (not (given_fit marks sizes bodies)) refl
    ∙ ap (λ c. lowest ((2 when c) ∷ (14 when not (given_fit marks sizes bodies)) ∷ [])) (not_at_least (room_asked marks sizes bodies) (length room))

pub exchange_lowest : ExchangeLowest
exchange_lowest bytes =
    let c = ltb (length bytes) 2 || ltb 37 (length bytes) in
    answers {A = Result Bool Refusal} answer_of c _ _ ∙ one 15 c

pub comparison_lowest : ComparisonLowest
comparison_lowest xs ys =
    let c = not (eqb (length xs) (length ys)) || ltb 37 (length xs) in
    answers {A = Result ℕ Refusal} answer_of c _ _ ∙ one 15 c

-- ---- the shelf

-- of a report: too many rows, then a bad one
reported : (a b : Bool) (f : Figures) → answer_of (cond {A = Result Figures Refusal} a (Err TooManyRows) (cond b (Err BadRow) (Ok f))) ≡ cond a 16 (cond b 17 0)
reported true b f = refl
reported false true f = refl
reported false false f = refl

number_of_report : (rows : List Row) → answer_of (report_of rows) ≡ cond (ltb 64 (length rows)) 16 (cond (any_bad rows) 17 0)
unfolding report_of
number_of_report rows = reported (ltb 64 (length rows)) (any_bad rows) (figures rows)

pub report_lowest : ReportLowest
unfolding rising all_above
report_lowest rows = number_of_report rows ∙ two 16 17 (ltb 64 (length rows)) (any_bad rows) refl

-- the bytes told of a report have its number
told : (r : Result Figures Refusal) → answer_of (bytes_told r) ≡ answer_of r
told (Ok f) = refl
told (Err e) = refl

-- of a table: the room, then its form, then its rows
tabled : (a b : Bool) (r : Result Figures Refusal) → answer_of (cond a (Err SmallRoom) (cond b (Err WrongForm) r)) ≡ cond a 2 (cond b 4 (answer_of r))
tabled true b r = refl
tabled false true r = refl
tabled false false r = refl

pub table_report_lowest : TableReportLowest
unfolding rising all_above first_holding
table_report_lowest table room =
    let small = ltb (length room) 16 in
    told (table_report table room)
    ∙ tabled small (is_ragged table) (report_of (rows_in table))
    ∙ ap (λ a. cond small 2 (cond (is_ragged table) 4 a)) (number_of_report (rows_in table))
    ∙ sym (first_is_lowest (table_conditions table room) refl)

-- ---- transactions

-- a write that must carry PEC and has none isn't one whose PEC is wrong: 4 goes before 5
four_first : (must checked wrong : Bool) (row : ℕ)
    → cond (checked && wrong) 5 (cond (must && not checked) 4 row) ≡ cond (must && not checked) 4 (cond (checked && wrong) 5 row)
four_first true true wrong row = refl
four_first true false wrong row = refl
four_first false true wrong row = refl
four_first false false wrong row = refl

-- a request's answer, by what stands in its way
asks : (d : Side) (a b wrong read : Bool) (bytes : List ℕ) (checked : Bool)
    → request_answer d (cond a (Refused 3) (cond b (Refused 4) (cond (not read && (checked && wrong)) (Refused 5) (cond read (Read (get_or bytes 1 0)) (write_of bytes checked)))))
    ≡ cond a 3 (cond (b || (not read && bare d checked)) 4
    (cond (not read && (checked && wrong)) 5 (cond read (read_answer d (command_of bytes) (d.kinds (command_of bytes))) (write_answer (d.kinds (command_of bytes))))))
asks d true b wrong read bytes checked = refl
asks d false true wrong read bytes checked = refl
asks d false false wrong true bytes checked = refl
asks d false false wrong false bytes checked = refused (checked && wrong) ∙ four_first d.must_check checked wrong (write_answer (d.kinds (command_of bytes)))
  where
    refused : (c : Bool) → request_answer d (cond c (Refused 5) (write_of bytes checked)) ≡ cond c 5 (cond (d.must_check && not checked) 4 (write_answer (d.kinds (command_of bytes))))
    refused true = refl
    refused false = refl

-- a row's answer is the first of 6 to 10 that holds; only a word that is read only is answered 10
by_row : (d : Side) (command : ℕ) (k : Kind) (read good ten : Bool)
    → (ten ≡ true → k ≡ ReadOnly) → d.block_answer command ≡ cond good 0 9 → d.word_answer command ≡ cond ten 10 0
    → cond read (read_answer d command k) (write_answer k)
    ≡ first_holding ((6 when is_reserved k) ∷ (7 when is_optional k) ∷ (8 when is_denied read k) ∷ (9 when (read && (is_block k && not good))) ∷ (10 when (read && ten)) ∷ [])
unfolding first_holding
by_row d command Reserved read good ten only block word = alike read 6
by_row d command Optional read good ten only block word = alike read 7
by_row d command Block true good true only block word = absurd (let z : ◌≡◌ {A = Bool} true false = ap is_block (only refl) in let y : ◌≡◌ {A = ℕ} 0 1 = cc in omega arith)
by_row d command Block true true false only block word = block
by_row d command Block true false false only block word = block
by_row d command WriteOnly true good ten only block word = refl
by_row d command WriteOnly false good ten only block word = refl
by_row d command ReadOnly true good ten only block word = word
by_row d command ReadWrite true good ten only block word = word
by_row d command Block false good ten only block word = refl
by_row d command ReadOnly false good ten only block word = refl
by_row d command ReadWrite false good ten only block word = refl

pub side_lowest : SideLowest
unfolding side_answer request_of first_holding rising all_above
side_lowest d read bytes room good cut block word only =
    ap (λ a. cond (not d.sound) 1 (cond (ltb room d.least) 2 a))
    (asks d (foreign d.address bytes) (misshapen d.address read bytes) (not (ends_in_pec bytes)) read bytes (eqb (length bytes) 5)
    ∙ ap (λ a. cond (foreign d.address bytes) 3 (cond (misshapen d.address read bytes || (not read && bare d (eqb (length bytes) 5))) 4 (cond (miscoded read bytes) 5 a)))
    (by_row d (command_of bytes) (d.kinds (command_of bytes)) read good cut only block word))
    ∙ sym (first_is_lowest (side_conditions d read bytes room good cut) refl)

pub transact_lowest : TransactLowest
unfolding transact_of transact_answer
transact_lowest s service factory read bytes room =
    side_lowest (pack_side s service factory) read bytes room (good_sheets service factory) (is_ten s.pack (command_of bytes)) (block_number service factory) (ten_exactly s (command_of bytes)) (ten_read_only s.pack (command_of bytes))

pub charger_transact_lowest : ChargerTransactLowest
unfolding charger_bus.transact_of charger_bus.transact_answer
charger_transact_lowest s read bytes room = side_lowest (charger_bus.charger_side s) read bytes room true false refl refl (λ e. absurd (true≢false (sym e)))

-- only words that are read only are cut off
cut_read_only : (p : Thirteen) (command : ℕ) → is_cut_off p command ≡ true → thirteen_kind command ≡ ReadOnly
unfolding thirteen_kind
cut_read_only p command h = at (λ n. thirteen_kind n ≡ ReadOnly) command 0x11 refl (λ a. at (λ n. thirteen_kind n ≡ ReadOnly) command 0x13 refl (λ b. absurd (true≢false (sym h ∙ simp (a, b)))))

pub thirteen_transact_lowest : ThirteenTransactLowest
unfolding thirteen_bus.transact_of thirteen_bus.transact_answer
thirteen_transact_lowest s read bytes room =
    side_lowest (thirteen_bus.thirteen_side s) read bytes room true (is_cut_off s.pack (command_of bytes)) refl (cut_off_exactly s.pack (command_of bytes)) (cut_read_only s.pack (command_of bytes))
