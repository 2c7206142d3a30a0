-- Request R-5 over histories: two packs of one set-up but for the choice, one with PEC and one plain, and the same history.
-- Assumes nothing.
use Rattle.std.specs.Prelude.{ℕ, ◌*◌, ◌≤◌, ◌<◌, Bool, true, false, List, [], ◌∷◌, map, ◌≡◌, take, drop}
use Rattle.broadcasts.specs.Broadcasts.{messages_of, broadcast_of}
use Rattle.bus_laws.specs.Calls.{reply}
use Rattle.clock.specs.Broadcast.{sample_of}
use Rattle.clock.specs.Sample.{moved_of}
use Rattle.frame_laws.specs.Broadcasts.{AllFit, without_pec}
use Rattle.pack.specs.Choice.{state_as}
use Rattle.pack.specs.Fits.{PackFits}
use Rattle.pack.specs.declared.Pack.{Pack}
use Rattle.pack.specs.declared.Sample.{Sample}
use Rattle.pack.specs.declared.State.{State}
use Rattle.pec.specs.Messages.{Right}
use Rattle.runs.specs.Events.{Event, sample, call, step, run, Throughout, answer_to, sent, broadcasts}
use Rattle.runs.specs.Since.{from_set_up}
use Rattle.start.specs.SetUp.{set_up_of}
use Rattle.start.specs.declared.Setup.{Setup}

-- what set-up brings, with the choice made so
abbrev pub setup_as : Bool → Setup → Setup
setup_as plain u =
    record {
      DesignCapacity = u.DesignCapacity;
      full = u.full;
      remaining = u.remaining;
      DesignVoltage = u.DesignVoltage;
      MaxError = u.MaxError;
      CycleCount = u.CycleCount;
      ManufactureDate = u.ManufactureDate;
      SerialNumber = u.SerialNumber;
      ChargingCurrent = u.ChargingCurrent;
      ChargingVoltage = u.ChargingVoltage;
      TemperatureLimit = u.TemperatureLimit;
      DischargeLimit = u.DischargeLimit;
      plain = plain;
    }

-- a sample is lent room of 20 bytes or more
abbrev pub Roomy : State → Event → Type 0
Roomy s (sample x n) = 20 ≤ n
Roomy s (call c) = Unit {0}

-- the reply to a call; a sample has none
abbrev pub reply_to : State → Event → List ℕ
reply_to s (sample x n) = []
reply_to s (call c) = reply s c

-- every event is answered the same, with the same reply
abbrev pub AnsweredAlike : State → State → List Event → Type 0
AnsweredAlike s t [] = Unit {0}
AnsweredAlike s t (e ∷ es) = (answer_to t e ≡ answer_to s e) × (reply_to t e ≡ reply_to s e) × AnsweredAlike (step s e) (step t e) es

-- from a state with PEC and a plain one: the states differ in the choice alone, each broadcast with the PEC taken off is the plain one's, all else is answered the same
pub record ButForPec (s t : State) (es : List Event) : Type 0 where
  pub state : run t es ≡ state_as true (run s es)
  pub broadcast : broadcasts t es ≡ map without_pec (broadcasts s es)
  pub answers : AnsweredAlike s t es

-- so for two packs of one served set-up but for the choice
abbrev pub PecTakenOff : Type 0
PecTakenOff =
    (u : Setup) (first : Sample) (es : List Event) → (set_up_of u first).answer ≡ 0 → Throughout Roomy (from_set_up (setup_as false u) first) es
    → ButForPec (from_set_up (setup_as false u) first) (from_set_up (setup_as true u) first) es

-- and from any state, sound or not
abbrev pub PecTakenOffFrom : Type 0
PecTakenOffFrom = (s : State) (es : List Event) → Throughout Roomy (state_as false s) es → ButForPec (state_as false s) (state_as true s) es

-- ---- the messages

-- with PEC every five bytes that a sample sends are a right message
abbrev pub EachRight : Type 0
EachRight =
    (s : State) (x : Sample) (n k : ℕ) → s.pack.settings.plain ≡ false → k < (sample_of s x n).messages
    → Right (take 5 (drop (5 * k) (sent s (sample x n))))

-- the fields of a sample's messages hold what their types let them hold, as the theorems on messages ask, where the pack's do
abbrev pub MessagesFit : Type 0
MessagesFit = (s : State) (x : Sample) → PackFits s.pack → AllFit (messages_of (moved_of s.pack x))

-- two packs whose broadcasts are the same bytes sent the same messages, whatever the choice of each
abbrev pub BroadcastsTell : Type 0
BroadcastsTell = (p q : Pack) → broadcast_of p ≡ broadcast_of q → messages_of p ≡ messages_of q
