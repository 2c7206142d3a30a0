-- Request R-10: what holds of the thirteen-cell pack, the theorems of `proofs/`.
-- Assumes nothing.
use Rattle.std.specs.Prelude.{ℕ, ◌%◌, ◌≤◌, ◌<◌, Bool, true, false, cond, List, [], ◌∷◌, ◌++◌, ◌⊎◌, ◌≡◌, eqb, pos, neg_ℤ, length, get_or}
use Rattle.std.specs.Int.Signed.{le_z}
use Rattle.std.specs.Int.{w16}
use Rattle.std.proofs.Common.{to_z}
use Rattle.commands.specs.Answers.{code_after, served}
use Rattle.commands_laws.specs.Visits.{visit_body}
use Rattle.frame.specs.Transactions.{read_bytes, reply_of}
use Rattle.frame_laws.specs.Exchanges.{Accepts, FarApart}
use Rattle.gauge_laws.specs.Promises.{bit_of, digit}
use Rattle.pack.specs.Fits.{SampleFits}
use Rattle.pack.specs.declared.Sample.{Sample}
use Rattle.pec.specs.Messages.{Right}
use Rattle.start.specs.Fits.{SetupFits}
use Rattle.start.specs.declared.Setup.{Setup}
use Rattle.thirteen.specs.Transact.{outcome, transact_answer, reply_room}
use Rattle.thirteen_laws.specs.Events.{Call, result, answer, reply, visit, exchange, Reads, Writes, Exchanged, Event, run, EventsFit}
use Rattle.thirteen_laws.specs.Rows.{is_cut_off, read_rows, write_rows}
use Rattle.thirteen_pack.specs.Fits.{CellsFit, ThirteenFits, Fits}
use Rattle.thirteen_pack.specs.Sample.{sample_of}
use Rattle.thirteen_pack.specs.SetUp.{set_up_of, zero_state}
use Rattle.thirteen_pack.specs.Sound.{sound_of}
use Rattle.thirteen_pack.specs.declared.Thirteen.{Thirteen}
use Rattle.thirteen_pack.specs.declared.ThirteenState.{ThirteenState}
use Rattle.thirteen_status.specs.Status.{over_temperature, under_temperature, discharge_over_current, charge_over_current, over_voltage, under_voltage, fully_charged}
use Rattle.thirteen_words.specs.Word.{current_word, word_of, word_answer}
use Rattle.words.specs.Words.{below}

-- ---- 1. rows

-- a word read is answered 10 exactly for 11 or 13 beyond the range, else 0
abbrev pub CutOffExactly : Type 0
CutOffExactly = (p : Thirteen) (command : ℕ) → word_answer p command ≡ cond (is_cut_off p command) 10 0

-- a right read is answered by its command's row
abbrev pub ReadRow : Type 0
ReadRow =
    (s : ThirteenState) (c : Call) (command : ℕ) → command < 256 → sound_of s ≡ true → 34 ≤ c.room → Reads c command
    → answer s c ≡ get_or (read_rows (λ n. cond (is_cut_off s.pack n) 10 0)) command 0

-- so is a right write with PEC, whatever the word
abbrev pub WriteRow : Type 0
WriteRow =
    (s : ThirteenState) (c : Call) (command word : ℕ) → command < 256 → sound_of s ≡ true → 34 ≤ c.room → Writes c command word true
    → answer s c ≡ get_or write_rows command 0

-- one without PEC is answered 4, whatever the command
abbrev pub BareWrite : Type 0
BareWrite =
    (s : ThirteenState) (c : Call) (command word : ℕ) → sound_of s ≡ true → 34 ≤ c.room → Writes c command word false → answer s c ≡ 4

-- 9 never comes, and nothing above 10
abbrev pub NeverComes : Type 0
NeverComes = (s : ThirteenState) (c : Call) → (answer s c ≤ 10) × (answer s c ≡ 9 → ⊥)

-- what is sent to any other address is answered 3
abbrev pub OtherAddresses : Type 0
OtherAddresses =
    (s : ThirteenState) (c : Call) (address : ℕ) (rest : List ℕ) → sound_of s ≡ true → 34 ≤ c.room
    → c.bytes ≡ address ∷ rest → (address ≡ 0x16 → ⊥) → answer s c ≡ 3

-- ---- 2. what a host can change

-- no write is served, on any state, with any bytes and room
abbrev pub NoWriteServed : Type 0
NoWriteServed = (s : ThirteenState) (c : Call) → c.read ≡ false → served (answer s c) ≡ false

-- calls one after another
abbrev pub called : ThirteenState → List Call → ThirteenState
called s [] = s
called s (c ∷ cs) = called (result s c).state cs

-- no call of a host, and no number of them, changes anything but the error code: every register reads as before
abbrev pub HostChangesNothing : Type 0
HostChangesNothing = (s : ThirteenState) (cs : List Call) → (called s cs).pack ≡ s.pack

-- the error code is the table's
abbrev pub CodeLeft : Type 0
CodeLeft = (s : ThirteenState) (c : Call) → (result s c).state.error ≡ code_after (answer s c) s.error

-- a refusal has no reply bytes
abbrev pub RefusedCall : Type 0
RefusedCall = (s : ThirteenState) (c : Call) → served (answer s c) ≡ false → result s c ≡ outcome s (answer s c) 0

-- and writes no lent byte
abbrev pub RefusedRoom : Type 0
RefusedRoom =
    (s : ThirteenState) (read : Bool) (bytes room : List ℕ) → served (transact_answer s read bytes (length room)) ≡ false → reply_room s read bytes room ≡ room

-- a refused sample changes nothing at all
abbrev pub RefusedSample : Type 0
RefusedSample = (s : ThirteenState) (x : Sample) (cells : List ℕ) → ((sample_of s x cells).answer ≡ 0 → ⊥) → (sample_of s x cells).state ≡ s

-- ---- 3. exchanges, as demand 3 says

-- a served read is replied to with its body and the PEC over request and body
abbrev pub Replied : Type 0
Replied =
    (s : ThirteenState) (c : Call) (command : ℕ) → Reads c command → served (answer s c) ≡ true
    → reply s c ≡ reply_of c.bytes (visit_body (visit s c) command)

-- so request followed by reply is right
abbrev pub ExchangePasses : Type 0
ExchangePasses = (s : ThirteenState) (c : Call) (command : ℕ) → Reads c command → served (answer s c) ≡ true → Right (exchange s c)

-- it has 6 bytes, that of F1 30
abbrev pub ExchangeLength : Type 0
ExchangeLength =
    (s : ThirteenState) (c : Call) (command : ℕ) → Reads c command → served (answer s c) ≡ true → CellsFit s.pack.cells
    → length (exchange s c) ≡ cond (eqb command 0xF1) 30 6

-- and the exchange check accepts it
abbrev pub ExchangeAccepted : Type 0
ExchangeAccepted =
    (s : ThirteenState) (c : Call) (command : ℕ) → Reads c command → served (answer s c) ≡ true → CellsFit s.pack.cells → Accepts (exchange s c)

-- two different exchanges of one length: of 6 bytes at least four bits apart; of 30 an even number, never all within eight neighbours, and two only 127 or 254 apart
abbrev pub ExchangesApart : Type 0
ExchangesApart =
    (s t : ThirteenState) (c d : Call) → Exchanged s c → Exchanged t d → length (exchange s c) ≡ length (exchange t d) → (exchange s c ≡ exchange t d → ⊥)
    → FarApart (exchange s c) (exchange t d)

-- a command misheard shows up
abbrev pub Misheard : Type 0
Misheard =
    (s : ThirteenState) (c : Call) (x : Exchanged s c) (sent : ℕ) → sent < 256 → (sent ≡ x.command → ⊥) → Right (read_bytes 0x16 sent ++ reply s c) → ⊥

-- ---- 4. soundness

-- the all-zero state isn't sound
abbrev pub ZeroUnsound : Type 0
ZeroUnsound = sound_of zero_state ≡ false

-- set-up's state is sound exactly when its answer is 0
abbrev pub SoundWhenServed : Type 0
SoundWhenServed =
    (u : Setup) (health : ℕ) (first : Sample) (cells : List ℕ)
    → sound_of (set_up_of u health first cells).state ≡ eqb (set_up_of u health first cells).answer 0

-- the answer is 0, or 11 with the all-zero state
abbrev pub ServedOrZero : Type 0
ServedOrZero =
    (u : Setup) (health : ℕ) (first : Sample) (cells : List ℕ)
    → ((set_up_of u health first cells).answer ≡ 0) ⊎ (set_up_of u health first cells ≡ record { answer = 11; state = zero_state })

-- every sample and every call on a sound state leaves a sound state
abbrev pub SoundStays : Type 0
SoundStays = (s : ThirteenState) (es : List Event) → sound_of s ≡ true → sound_of (run s es) ≡ true

-- set-up gives a state whose fields hold what their types let them hold
abbrev pub StartFits : Type 0
StartFits =
    (u : Setup) (health : ℕ) (first : Sample) (cells : List ℕ) → SetupFits u → health < 65536 → SampleFits first → CellsFit cells
    → Fits (set_up_of u health first cells).state

-- and every sample and every call leaves one
abbrev pub FitsStays : Type 0
FitsStays = (s : ThirteenState) (es : List Event) → Fits s → EventsFit es → Fits (run s es)

-- ---- 5. words within their ranges

-- every word of a sound state is below 65,536
abbrev pub WordBelow : Type 0
WordBelow = (s : ThirteenState) (command : ℕ) → sound_of s ≡ true → ThirteenFits s.pack → word_of s.pack command < 65536

-- 0D is at most 100
abbrev pub RelativeMost : Type 0
RelativeMost = (s : ThirteenState) → sound_of s ≡ true → word_of s.pack 0x0D ≤ 100

-- 09 is at most 6,553
abbrev pub VoltageMost : Type 0
VoltageMost = (p : Thirteen) → ThirteenFits p → word_of p 0x09 ≤ 6553

-- 0A lies between −3,276 and 3,276
abbrev pub CurrentBetween : Type 0
CurrentBetween =
    (current : ℕ) → current < 65536
    → (le_z (neg_ℤ (pos 3276)) (to_z w16 (current_word current)) ≡ true) × (le_z (to_z w16 (current_word current)) (pos 3276) ≡ true)

-- 001's places of the flags; bits 15, 14 and 3 to 0 are 0
pub record BitsStand (p : Thirteen) (w : ℕ) : Type 0 where
  pub reserved15 : bit_of 15 w ≡ 0
  pub reserved14 : bit_of 14 w ≡ 0
  pub OVER_TEMPERATURE : bit_of 13 w ≡ digit (over_temperature p.latest)
  pub UNDER_TEMPERATURE : bit_of 12 w ≡ digit (under_temperature p.latest)
  pub DISCHARGE_OVER_CURRENT : bit_of 11 w ≡ digit (discharge_over_current p.latest)
  pub CHARGE_OVER_CURRENT : bit_of 10 w ≡ digit (charge_over_current p.latest)
  pub OVER_VOLTAGE : bit_of 9 w ≡ digit (over_voltage p.latest)
  pub UNDER_VOLTAGE : bit_of 8 w ≡ digit (under_voltage p.latest)
  pub INITIALIZED : bit_of 7 w ≡ 1
  pub DISCHARGING : bit_of 6 w ≡ digit (below p.latest.current)
  pub FULLY_CHARGED : bit_of 5 w ≡ digit (fully_charged p.latest)
  pub FULLY_DISCHARGED : bit_of 4 w ≡ digit p.level.FullyDischarged
  pub error_bits : w % 16 ≡ 0

-- each bit of 16 is the flag that stands there
abbrev pub EachBit : Type 0
EachBit = (p : Thirteen) → BitsStand p (word_of p 0x16)
