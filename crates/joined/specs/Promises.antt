-- Request R-7: pack and charger joined, the theorems of `proofs/`.
-- Assumes nothing.
use Rattle.std.specs.Prelude.{ℕ, ◌≤◌, true, false, List, [], ◌∷◌, ◌++◌, ◌≡◌}
use Rattle.alarms.specs.Alarms.{terminate_charge, charger_alarm, charging_current}
use Rattle.broadcasts.specs.Broadcasts.{charger_goes}
use Rattle.charger_state.specs.Charger.{alarm_inhibited, current_of, set_up_of as charger_set_up_of, sound_of as charger_sound}
use Rattle.clock.specs.Sample.{moved_of}
use Rattle.joined.specs.Joined.{Joint, Tick, Happening, tick, pack_sample, events_of, happen, after_all, AllFair, Throughout, Within}
use Rattle.pack.specs.Sound.{sound_of}
use Rattle.pack.specs.declared.Pack.{Pack}
use Rattle.pack.specs.declared.Sample.{Sample}
use Rattle.runs.specs.Events.{accepted, time_of}
use Rattle.runs.specs.Since.{from_set_up}
use Rattle.start.specs.SetUp.{set_up_of}
use Rattle.start.specs.declared.Setup.{Setup}
use Rattle.words.specs.Words.{above}

-- TERMINATE_CHARGE is set with CHARGER_MODE clear
abbrev pub Terminating : Joint → Type 0
Terminating j = (terminate_charge j.pack.pack ≡ true) × (j.pack.pack.host.ChargerMode ≡ false)

-- the charger gives no current
abbrev pub Off : Joint → Type 0
Off j = current_of j.charger ≡ 0

-- from any sound joint state, as that after the sample at which TERMINATE_CHARGE is set with CHARGER_MODE clear: if both last for 30 s or more,
-- the charger's current is 0 at some sample within so many milliseconds and at every moment after it (RULES 14.14)
abbrev pub StopsWithin : ℕ → Type 0
StopsWithin most =
    (j : Joint) (hs : List Happening) → sound_of j.pack ≡ true → charger_sound j.charger ≡ true
    → AllFair j hs → Throughout Terminating j hs → 30000 ≤ time_of j.pack (events_of hs) → Within most Off j hs

-- within 31 s (RULES 14.14)
abbrev pub JoinedStops : Type 0
JoinedStops = StopsWithin 31000

-- and 30,999 ms are enough (RULES 14.14)
abbrev pub StopsIn30999 : Type 0
StopsIn30999 = StopsWithin 30999

-- the charger gives current
abbrev pub Gives : Joint → Type 0
Gives j = current_of j.charger ≡ 0 → ⊥

-- pack and charger as their set-ups leave them
abbrev pub from_set_ups : Setup → Sample → Joint
from_set_ups u first = record { pack = from_set_up u first; charger = charger_set_up_of first }

-- such happenings, the last one a tick, and the charger gives current at every moment till that
pub record StillOn (j : Joint) (hs : List Happening) (last : Tick) : Type 0 where
  pub fair : AllFair j (hs ++ tick last ∷ [])
  pub lasts : Throughout Terminating j (hs ++ tick last ∷ [])
  pub on : Throughout Gives j hs

-- sharp to the millisecond: from set-ups and some happenings such a run goes on for 30,999 ms (RULES 14.14)
abbrev pub SharpTo30999 : Type 0
SharpTo30999 =
    (u : Setup) × (first : Sample) × (before : List Happening) × (hs : List Happening) × (last : Tick)
    × ((set_up_of u first).answer ≡ 0) × StillOn (after_all (from_set_ups u first) before) hs last
    × (time_of (after_all (from_set_ups u first) before).pack (events_of (hs ++ tick last ∷ [])) ≡ 30999)

-- none of bits 15, 14 and 12 is set, and CHARGER_MODE is clear
abbrev pub Charging : Joint → Type 0
Charging j = (charger_alarm j.pack.pack ≡ false) × (j.pack.pack.host.ChargerMode ≡ false)

-- the charger gives set-up's ChargingCurrent
abbrev pub Follows : Joint → Type 0
Follows j = current_of j.charger ≡ j.pack.pack.settings.ChargingCurrent

-- the way back: from any sound joint state with nothing inhibited and set-up's ChargingVoltage above 0, if there is no alarm and CHARGER_MODE is clear for 30 s or more,
-- the current is set-up's ChargingCurrent again at some sample within 31 s and at every moment after it (RULES 14.14)
abbrev pub JoinedReturns : Type 0
JoinedReturns =
    (j : Joint) (hs : List Happening) → sound_of j.pack ≡ true → charger_sound j.charger ≡ true
    → j.charger.inhibited ≡ false → (j.pack.pack.settings.ChargingVoltage ≡ 0 → ⊥)
    → AllFair j hs → Throughout Charging j hs → 30000 ≤ time_of j.pack (events_of hs) → Within 31000 Follows j hs

-- its premises, where an alarm has stopped the charger
pub record AfterAlarm (j : Joint) (hs : List Happening) : Type 0 where
  pub alarm : alarm_inhibited j.charger ≡ true
  pub free : j.charger.inhibited ≡ false
  pub voltage : j.pack.pack.settings.ChargingVoltage ≡ 0 → ⊥
  pub fair : AllFair j hs
  pub lasts : Throughout Charging j hs
  pub time : 30000 ≤ time_of j.pack (events_of hs)

-- they are met, from set-ups on
abbrev pub ReturnsFromAnAlarm : Type 0
ReturnsFromAnAlarm =
    (u : Setup) × (first : Sample) × (before : List Happening) × (hs : List Happening)
    × ((set_up_of u first).answer ≡ 0) × AfterAlarm (after_all (from_set_ups u first) before) hs

-- ---- a hot pack

-- where charger words go, an alarm in the same broadcast is undone at once: the words come behind it (RULES 14.15)
abbrev pub WordsUndoAlarm : Type 0
WordsUndoAlarm =
    (j : Joint) (t : Tick) → sound_of j.pack ≡ true → charger_sound j.charger ≡ true → accepted j.pack (pack_sample t) ≡ true → 3 ≤ t.reply
    → charger_goes (moved_of j.pack.pack t.pack) ≡ true → alarm_inhibited (happen j (tick t)).charger ≡ false

-- with no current above 0 TERMINATE_CHARGE is clear, and the words ask for set-up's ChargingCurrent, however hot the pack is (RULES 14.15)
abbrev pub RestAsksForCurrent : Type 0
RestAsksForCurrent =
    (p : Pack) → above p.latest.current ≡ false → (terminate_charge p ≡ false) × (charging_current p ≡ p.settings.ChargingCurrent)
