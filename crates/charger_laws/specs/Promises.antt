-- Request R-7: what holds of the charger, the theorems of `proofs/`.
-- Assumes nothing.
use Rattle.std.specs.Prelude.{ℕ, ◌+◌, ◌≤◌, ◌<◌, min, Bool, true, false, ◌&&◌, List, [], ◌∷◌, ◌++◌, map, ◌⊎◌, ◌≡◌, pos, length, get_or, replicate}
use Rattle.std.specs.Int.Signed.{lt_z}
use Rattle.charger_state.specs.Charger.{set_up_of, sound_of, alarm_inhibited, current_of, asks_for, voltage_not_met, current_not_met, status_of, sample_of}
use Rattle.charger.specs.Transact.{outcome, transact_answer, transact_of, reply_room}
use Rattle.charger_written.specs.Written.{ends_charge}
use Rattle.charger_state.specs.declared.Charger.{Charger}
use Rattle.charger_laws.specs.Events.{Call, result, answer, reply, exchange, Reads, Writes, Exchanged, Event, sample, call, step, run, time_of, NoReset, NoneTaken, charger_party}
use Rattle.chatter.specs.Struck.{Struck, Unmoved}
use Rattle.commands.specs.Answers.{served}
use Rattle.frame.specs.Transactions.{read_bytes}
use Rattle.frame_laws.specs.Exchanges.{Accepts, FarApart}
use Rattle.pack.specs.Fits.{SampleFits}
use Rattle.pack.specs.Kept.{latest_of}
use Rattle.pack.specs.declared.Sample.{Sample}
use Rattle.pec.specs.Messages.{Right, bits_apart}
use Rattle.pec_laws.specs.Faults.{Pair}
use Rattle.written.specs.Written.{bit_set}

-- ---- 1. answers

-- set-up gives a sound state
abbrev pub SetUpSound : Type 0
SetUpSound = (first : Sample) → sound_of (set_up_of first) ≡ true

-- every sample and every call keeps it so
abbrev pub SoundStays : Type 0
SoundStays = (s : Charger) (es : List Event) → sound_of s ≡ true → sound_of (run s es) ≡ true

-- to a right read and a right write of 00 to 10, 11, 12, 13, 14, 15, 16, and 17 to FF
abbrev pub read_rows : List ℕ
read_rows = replicate 17 6 ++ 0 ∷ 8 ∷ 0 ∷ 8 ∷ 8 ∷ 8 ∷ replicate 233 6

abbrev pub write_rows : List ℕ
write_rows = replicate 17 6 ++ 8 ∷ 0 ∷ 8 ∷ 0 ∷ 0 ∷ 0 ∷ replicate 233 6

-- a right read is answered by its command's row
abbrev pub ReadRow : Type 0
ReadRow =
    (s : Charger) (c : Call) (command : ℕ) → command < 256 → sound_of s ≡ true → 3 ≤ c.room → Reads c command
    → answer s c ≡ get_or read_rows command 0

-- so is a right write, whatever the word, with or without PEC
abbrev pub WriteRow : Type 0
WriteRow =
    (s : Charger) (c : Call) (command word : ℕ) → command < 256 → sound_of s ≡ true → 3 ≤ c.room → Writes c command word
    → answer s c ≡ get_or write_rows command 0

-- 7, 9 and 10 never come, and nothing above 8
abbrev pub NeverComes : Type 0
NeverComes = (s : Charger) (c : Call) → (answer s c ≤ 8) × (answer s c ≡ 7 → ⊥)

-- what is sent to any other address, the pack's 0x16 among them, is answered 3
abbrev pub OtherAddresses : Type 0
OtherAddresses =
    (s : Charger) (c : Call) (address : ℕ) (rest : List ℕ) → sound_of s ≡ true → 3 ≤ c.room
    → c.bytes ≡ address ∷ rest → (address ≡ 0x12 → ⊥) → answer s c ≡ 3

-- a refusal changes nothing at all, and has no reply bytes
abbrev pub RefusedKeeps : Type 0
RefusedKeeps = (s : Charger) (c : Call) → served (answer s c) ≡ false → result s c ≡ outcome (answer s c) s 0

-- it writes no lent byte
abbrev pub RefusedRoom : Type 0
RefusedRoom =
    (s : Charger) (read : Bool) (bytes room : List ℕ) → served (transact_answer s read bytes (length room)) ≡ false
    → reply_room s read bytes room ≡ room

-- nor does a refused sample change anything
abbrev pub RefusedSample : Type 0
RefusedSample = (s : Charger) (x : Sample) → ((sample_of s x).answer ≡ 0 → ⊥) → (sample_of s x).state ≡ s

-- a read changes nothing, served or refused
abbrev pub ReadKeeps : Type 0
ReadKeeps = (s : Charger) (c : Call) → c.read ≡ true → (result s c).state ≡ s

-- so a read or a refused call changes nothing
abbrev pub IdleKeeps : Type 0
IdleKeeps = (s : Charger) (c : Call) → (c.read ≡ true) ⊎ (served (answer s c) ≡ false) → (result s c).state ≡ s

-- so do reads, refused calls and refused samples: struck out of any events, any choice of them, they leave the state and the time, and every event that stays gives the same (RULES 16.6)
abbrev pub ChatterIsIdle : Type 0
ChatterIsIdle =
    (s : Charger) (es fs : List Event) (r : Struck charger_party s es fs) → Unmoved charger_party s s es fs r × (time_of s es ≡ time_of s fs)

-- ---- exchanges, as demand 3 says

-- a served read's exchange is right, of 6 bytes
abbrev pub ExchangePasses : Type 0
ExchangePasses =
    (s : Charger) (c : Call) (command : ℕ) → Reads c command → served (answer s c) ≡ true → Right (exchange s c) × (length (exchange s c) ≡ 6)

-- and the exchange check accepts it
abbrev pub ExchangeAccepted : Type 0
ExchangeAccepted = (s : Charger) (c : Call) (command : ℕ) → Reads c command → served (answer s c) ≡ true → Accepts (exchange s c)

-- two different exchanges
abbrev pub ExchangesApart : Type 0
ExchangesApart =
    (s t : Charger) (c d : Call) → Exchanged s c → Exchanged t d → (exchange s c ≡ exchange t d → ⊥) → FarApart (exchange s c) (exchange t d)

-- a command misheard by the charger shows up
abbrev pub Misheard : Type 0
Misheard =
    (s : Charger) (c : Call) (x : Exchanged s c) (sent : ℕ) → sent < 256 → (sent ≡ x.command → ⊥) → Right (read_bytes 0x12 sent ++ reply s c) → ⊥

-- a right five-byte write altered in one to three bits changes nothing, on any state and room
abbrev pub AlteredKeeps : Type 0
AlteredKeeps =
    (s : Charger) (sent heard : List ℕ) (room : ℕ) → Pair sent heard → Right sent → length sent ≡ 5
    → 1 ≤ bits_apart sent heard → bits_apart sent heard ≤ 3 → (transact_of s false heard room).state ≡ s

-- ---- 2. silence

-- with neither request taken the count is the time of the events, up to 175,000
abbrev pub CountsSilence : Type 0
CountsSilence =
    (s : Charger) (es : List Event) → sound_of s ≡ true → NoneTaken 0x14 s es → NoneTaken 0x15 s es
    → (run s es).count ≡ min 175000 (s.count + time_of s es)

-- so silence stops it
abbrev pub SilenceStops : Type 0
SilenceStops =
    (s : Charger) (es : List Event) → sound_of s ≡ true → NoneTaken 0x14 s es → NoneTaken 0x15 s es → 175000 ≤ time_of s es
    → current_of (run s es) ≡ 0

-- until then, with nothing inhibited and a ChargingVoltage above 0 taken, its current is the last ChargingCurrent
abbrev pub LastRequest : Type 0
LastRequest =
    (s : Charger) → s.ChargingCurrent.taken ≡ true → s.inhibited ≡ false → alarm_inhibited s ≡ false → asks_for s.ChargingVoltage ≡ true → s.count < 175000
    → current_of s ≡ s.ChargingCurrent.word

-- the last ChargingCurrent: what a taken write of 14 leaves stands, whatever happens, until another is taken or a reset (INHIBIT_CHARGE resets nothing)
abbrev pub LastTaken : Type 0
LastTaken =
    (s : Charger) (c : Call) (word : ℕ) (es : List Event) → sound_of s ≡ true → 3 ≤ c.room → Writes c 0x14 word
    → NoneTaken 0x14 (result s c).state es → NoReset (result s c).state es
    → ((run s (call c ∷ es)).ChargingCurrent.taken ≡ true) × ((run s (call c ∷ es)).ChargingCurrent.word ≡ word)

-- by events at which nothing is taken its current stays, until the count comes to 175,000
abbrev pub HoldsOn : Type 0
HoldsOn =
    (s : Charger) (es : List Event) → sound_of s ≡ true
    → NoneTaken 0x12 s es → NoneTaken 0x14 s es → NoneTaken 0x15 s es → NoneTaken 0x16 s es
    → s.count + time_of s es < 175000 → current_of (run s es) ≡ current_of s

-- ---- 3. alarms

-- an alarm that is taken stops it at once: both requests are awaited
abbrev pub AlarmStops : Type 0
AlarmStops =
    (s : Charger) (c : Call) (word : ℕ) → sound_of s ≡ true → 3 ≤ c.room → Writes c 0x16 word → ends_charge word ≡ true
    → ((result s c).state.ChargingCurrent.awaited ≡ true) × ((result s c).state.ChargingVoltage.awaited ≡ true) × (current_of (result s c).state ≡ 0)

-- only both requests bring it back: whatever happens, as long as one of them isn't taken, it stays off
abbrev pub OnlyBoth : Type 0
OnlyBoth =
    (s : Charger) (es : List Event) → s.ChargingCurrent.awaited ≡ true → s.ChargingVoltage.awaited ≡ true
    → NoneTaken 0x14 s es ⊎ NoneTaken 0x15 s es → current_of (run s es) ≡ 0

-- and both do: written one after the other, in either order, they are what it gives, if it isn't inhibited and the voltage isn't 0
abbrev pub BothBringBack : Type 0
BothBringBack =
    (s : Charger) (c d : Call) (current voltage : ℕ) → sound_of s ≡ true → s.inhibited ≡ false → 3 ≤ c.room → 3 ≤ d.room → (voltage ≡ 0 → ⊥)
    → (Writes c 0x14 current × Writes d 0x15 voltage) ⊎ (Writes c 0x15 voltage × Writes d 0x14 current)
    → current_of (run s (call c ∷ call d ∷ [])) ≡ current

-- ---- its status

-- each bit of ChargerStatus, from 0 on, is what its name says
abbrev pub StatusBits : Type 0
StatusBits =
    (s : Charger)
    → map (λ k. bit_set k (status_of s)) (0 ∷ 1 ∷ 2 ∷ 3 ∷ 4 ∷ 5 ∷ 6 ∷ 7 ∷ 8 ∷ 9 ∷ 10 ∷ 11 ∷ 12 ∷ 13 ∷ 14 ∷ 15 ∷ [])
    ≡ s.inhibited ∷ false ∷ voltage_not_met s ∷ current_not_met s ∷ true ∷ false ∷ false ∷ false
    ∷ false ∷ false ∷ false ∷ false ∷ alarm_inhibited s ∷ false ∷ true ∷ true ∷ []

-- a ChargingCurrent that isn't met is above the integer that was measured
abbrev pub NotMetTrue : Type 0
NotMetTrue =
    (s : Charger) (x : Sample) → SampleFits x → s.latest ≡ latest_of x
    → current_not_met s ≡ (s.ChargingCurrent.taken && lt_z x.current (pos s.ChargingCurrent.word))
