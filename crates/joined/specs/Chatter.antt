-- Request R-11 on one bus: what hosts ask of pack and charger, struck out of what happens.
-- Assumes nothing.
use Rattle.std.specs.Prelude.{Bool, false, List, ◌≡◌}
use Rattle.charger_state.specs.Charger.{current_of}
use Rattle.charger_laws.specs.Events as charger
use Rattle.chatter.specs.Struck.{Party, Struck, Unmoved}
use Rattle.joined.specs.Joined.{Joint, Happening, tick, host, asks, pack_sample, messages_from, happen, after_all}
use Rattle.joined.specs.Promises.{from_set_ups}
use Rattle.pack.specs.declared.Sample.{Sample}
use Rattle.runs.specs.Events.{call, is_idle}
use Rattle.runs.specs.Struck.{SameBut, Same}
use Rattle.start.specs.SetUp.{set_up_of}
use Rattle.start.specs.declared.Setup.{Setup}

-- an idle happening: a read or a refused call of a host, to the pack or to the charger; a tick is none
abbrev pub is_idle_on_bus : Joint → Happening → Bool
is_idle_on_bus j (tick t) = false
is_idle_on_bus j (host c) = is_idle j.pack (call c)
is_idle_on_bus j (asks c) = charger.is_idle j.charger (charger.call c)

-- the packs are the same but for the error code, and the chargers are the same
pub record SameJoint (j k : Joint) : Type 0 where
  pub pack : SameBut j.pack k.pack
  pub charger : j.charger ≡ k.charger

-- what a happening gives is the same: of a tick what the pack gives and the messages that the charger hears, of a call its answer and reply
abbrev pub SameHappening : Joint → Joint → Happening → Type 0
SameHappening j k (tick t) = Same j.pack k.pack (pack_sample t) × (messages_from j.pack t ≡ messages_from k.pack t)
SameHappening j k (host c) = Same j.pack k.pack (call c)
SameHappening j k (asks c) =
    (charger.answer j.charger c ≡ charger.answer k.charger c) × (charger.reply j.charger c ≡ charger.reply k.charger c)

-- both as what takes happenings
abbrev pub joint_party : Party Joint Happening
joint_party = record { step = happen; idle = is_idle_on_bus; Same = SameJoint; Gives = SameHappening }

-- from set-ups any idle happenings can be struck out: pack and charger end the same but for the pack's error code, and every happening that stays gives the same (RULES 16.7)
abbrev pub ChatterOnBus : Type 0
ChatterOnBus =
    (u : Setup) (first : Sample) (hs left : List Happening) → (set_up_of u first).answer ≡ 0
    → (r : Struck joint_party (from_set_ups u first) hs left) → Unmoved joint_party (from_set_ups u first) (from_set_ups u first) hs left r

-- so no chatter changes the current that the charger gives (RULES 16.7)
abbrev pub CurrentUndisturbed : Type 0
CurrentUndisturbed =
    (u : Setup) (first : Sample) (hs left : List Happening) → (set_up_of u first).answer ≡ 0 → Struck joint_party (from_set_ups u first) hs left
    → current_of (after_all (from_set_ups u first) hs).charger ≡ current_of (after_all (from_set_ups u first) left).charger
