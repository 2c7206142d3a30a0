-- A refusal shows nothing above its answer.
-- Assumes nothing.
use mathlib.Core.Bool.{Bool, true, false, cond, true≢false}
use mathlib.Core.List.{List}
use mathlib.Core.Option.{Option, none, some}
use mathlib.Core.Path.{refl}
use Prim.Native.Nat.{ℕ}
use native.Mathlib.Omega.{arith}
use lib.ListN.{length}
use Rattle.area.specs.Area.{state_in, is_area, no_state}
use Rattle.bus.specs.Transact.{pack_side, asked, transact_answer, transact_of}
use Rattle.calls.specs.Calls.{sample_number, transact_number}
use Rattle.capture.specs.Walk.{Shows, opened_of, step_at}
use Rattle.capture.specs.declared.Opened.{Opened}
use Rattle.charger_state.specs.Charger.{current_of}
use Rattle.charger.specs.Transact as charger
use Rattle.charger_area.specs.Area.{charger_in, is_charger_area}
use Rattle.charger_calls.specs.Calls as chargers
use Rattle.clock.proofs.Outcome.{outcome}
use Rattle.clock.specs.Broadcast.{sample_of}
use Rattle.clock.specs.declared.Sampled.{Sampled}
use Rattle.commands.specs.Answers.{Side, side_reply}
use Rattle.frame.specs.declared.Request.{Request}
use Rattle.frame.specs.declared.Request.TheVariants.{Refused, Read, Write}
use Rattle.names.specs.Names.{name_in, plain_wrote}
use Rattle.key.specs.Key.{Parts, read_key, read_of}
use Rattle.key_writer.specs.Writing.{key_wrote}
use Rattle.pack.specs.declared.Sample.{Sample}
use Rattle.pack.specs.declared.State.{State}
use Rattle.packed.specs.Packed.{packed, check_number, comparison_number, opened_number, read_number, located_number, step_number}
use Rattle.pec.specs.Messages.{exchange_check, bit_comparison}
use Rattle.refusals.specs.Numbers.{answer_of}
use Rattle.refusals.specs.declared.Refusal.{Refusal}
use Rattle.std.specs.Prelude.{Some, None, Result, Ok, Err}
use Rattle.sheet.specs.Block.{located_of}
use Rattle.sheet.specs.declared.Located.{Located}
use Rattle.sheet_edit.specs.Edit.{edit_of}
use Rattle.sheet_writer.specs.Writing.{sheet_wrote}
use Rattle.shelf_table.specs.Table.{table_wrote}
use Rattle.thirteen.specs.Transact as thirteen
use Rattle.thirteen_area.specs.Area.{is_thirteen_area, state_in as thirteen_in}
use Rattle.thirteen_calls.specs.Calls as thirteens
use Rattle.snatchblock_laws.specs.Bare.{Bare, WroteBare, CheckBare, ComparisonBare, KeyBare, NameBare, ReadBare, SheetBare, EditBare, BlockBare, OpenedBare, StepBare, ShelfBare, SampleBare, TransactBare, ChargerSampleBare, ChargerTransactBare, ChargerCurrentBare, ThirteenSampleBare, ThirteenTransactBare}

-- answer 0 is no refusal
served_bare : {n : ℕ} → Bare 0 n
served_bare h = absurd (true≢false h)

-- of a length told
wrote_bare : (r : Result ℕ Refusal) → WroteBare r
wrote_bare (Ok n) h = served_bare h
wrote_bare (Err reason) h = omega arith

pub check_bare : CheckBare
check_bare xs = go (exchange_check xs)
  where
    go : (r : Result Bool Refusal) → Bare (answer_of r) (check_number r)
    go (Ok right) h = served_bare h
    go (Err reason) h = omega arith

pub comparison_bare : ComparisonBare
comparison_bare xs ys = go (bit_comparison xs ys)
  where
    go : (r : Result ℕ Refusal) → Bare (answer_of r) (comparison_number r)
    go (Ok bits) h = served_bare h
    go (Err reason) h = omega arith

pub key_bare : KeyBare
key_bare maker device date serial room = wrote_bare (key_wrote maker device date serial room)

pub name_bare : NameBare
name_bare part room = wrote_bare (plain_wrote (name_in part) room)

pub read_bare : ReadBare
read_bare key = go (read_key key)
  where
    go : (o : Option Parts) → Bare (answer_of (read_of o)) (read_number o)
    go none h = refl
    go (some p) h = served_bare h

pub sheet_bare : SheetBare
sheet_bare es room = wrote_bare (sheet_wrote es room)

pub edit_bare : EditBare
edit_bare room stated tag to = wrote_bare (edit_of room stated tag to)

pub block_bare : BlockBare
block_bare service factory tag = go (located_of service factory tag)
  where
    go : (r : Result Located Refusal) → Bare (answer_of r) (located_number r)
    go (Ok l) h = served_bare h
    go (Err reason) h = omega arith

pub opened_bare : OpenedBare
opened_bare s = go (opened_of s)
  where
    go : (r : Result Opened Refusal) → Bare (answer_of r) (opened_number r)
    go (Ok o) h = served_bare h
    go (Err reason) h = omega arith

pub step_bare : StepBare
step_bare s row place = go (step_at s row place)
  where
    go : (r : Shows) → Bare (answer_of r) (step_number place r)
    go (Ok (Some step)) h = served_bare h
    go (Ok None) h = served_bare h
    go (Err reason) h = omega arith

pub shelf_bare : ShelfBare
shelf_bare table room = wrote_bare (table_wrote table room)

-- ---- the pack

sampled_bare : (s : State) (x : Sample) (n : ℕ) → Bare (sample_of s x n).answer (packed (sample_of s x n).answer (sample_of s x n).length)
sampled_bare s x n = outcome (λ r. Bare r.answer (packed r.answer r.length)) s x n (λ _. omega arith) (λ _. omega arith) (λ _. served_bare)

pub sample_bare : SampleBare
unfolding sample_number
sample_bare area sample room = go (is_area area)
  where
    r : Sampled
    r = sample_of (state_in area) sample (length room)

    go : (b : Bool) → Bare (cond b r.answer no_state) (cond b (packed r.answer r.length) no_state)
    go true = sampled_bare (state_in area) sample (length room)
    go false = λ _. refl

-- of every side: only a served read has a reply
reply_bare : (d : Side) (bytes : List ℕ) (q : Request) (answer : ℕ) → Bare answer (packed answer (length (side_reply d bytes q answer)))
reply_bare d bytes (Refused n) answer h = omega arith
reply_bare d bytes (Read command) answer h = rw h (omega arith)
reply_bare d bytes (Write command word checked) answer h = omega arith

-- so of its number, where the bytes are an area and where they are none
side_bare : (d : Side) (bytes : List ℕ) (q : Request) (answer : ℕ) (held : Bool)
    → Bare (cond held answer 1) (cond held (packed answer (length (side_reply d bytes q answer))) 1)
side_bare d bytes q answer true = reply_bare d bytes q answer
side_bare d bytes q answer false = λ _. refl

pub transact_bare : TransactBare
unfolding transact_number transact_of
transact_bare area service factory read bytes room =
    let s = state_in area in
    side_bare (pack_side s service factory) bytes (asked read bytes) (transact_answer s service factory read bytes (length room)) (is_area area)

-- ---- the charger

pub charger_sample_bare : ChargerSampleBare
unfolding chargers.sample_number
charger_sample_bare area sample h = refl

pub charger_transact_bare : ChargerTransactBare
unfolding chargers.transact_number charger.transact_of
charger_transact_bare area read bytes room =
    let s = charger_in area in
    side_bare (charger.charger_side s) bytes (charger.asked read bytes) (charger.transact_answer s read bytes (length room)) (is_charger_area area)

pub charger_current_bare : ChargerCurrentBare
charger_current_bare area = go (chargers.sound_in area)
  where
    go : (b : Bool) → Bare (cond b 0 1) (cond b (packed 0 (current_of (charger_in area))) 1)
    go true = served_bare
    go false = λ _. refl

-- ---- the thirteen-cell pack

pub thirteen_sample_bare : ThirteenSampleBare
unfolding thirteens.sample_number
thirteen_sample_bare area sample cells h = refl

pub thirteen_transact_bare : ThirteenTransactBare
unfolding thirteens.transact_number thirteen.transact_of thirteen.transact_reply
thirteen_transact_bare area read bytes room =
    let s = thirteen_in area in
    side_bare (thirteen.thirteen_side s) bytes (thirteen.asked read bytes) (thirteen.transact_answer s read bytes (length room)) (is_thirteen_area area)
