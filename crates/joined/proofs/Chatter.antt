-- What hosts ask of pack and charger disturbs neither.
-- Assumes nothing.
use Prim.Native.Nat.{ℕ}
use mathlib.Core.Bool.{true, cond, true≢false}
use mathlib.Core.List.{List, [], ◌∷◌, ◌++◌}
use mathlib.Core.Path.{◌≡◌, refl, sym, ap, ap₂, ◌∙◌}
use Rattle.charger_state.specs.Charger.{current_of}
use Rattle.charger_state.specs.declared.Charger.{Charger}
use Rattle.charger_laws.proofs.Chatter as chargers
use Rattle.charger_laws.specs.Events as charger
use Rattle.chatter.proofs.Chatter.{chatter_is_idle}
use Rattle.chatter.specs.Promises.{StepLaw}
use Rattle.joined.specs.Chatter.{is_idle_on_bus, SameJoint, SameHappening, joint_party, ChatterOnBus, CurrentUndisturbed}
use Rattle.joined.specs.Joined.{Joint, Tick, Happening, tick, host, asks, pack_sample, cut, messages_from, deliveries, charger_events, happen}
use Rattle.joined.specs.Promises.{from_set_ups}
use Rattle.pack.specs.declared.Pack.{Pack}
use Rattle.runs.proofs.Alike.{pack_step}
use Rattle.runs.proofs.Measures.{set_up_sound}
use Rattle.runs.specs.Events.{call, sent}
use Rattle.runs.specs.Struck.{messages_to}

module _ (j k : Joint) (h : SameJoint j k) where
  -- the charger hears the same messages
  same-messages : (t : Tick) → messages_from j.pack t ≡ messages_from k.pack t
  same-messages t =
      let same = pack_step.gives j.pack k.pack (pack_sample t) h.pack in
      ap (λ (p : Pack). cut p.settings.plain (sent j.pack (pack_sample t)) 0 (messages_to j.pack (pack_sample t))) h.pack.pack
      ∙ ap₂ (λ (bytes : List ℕ) (n : ℕ). cut k.pack.pack.settings.plain bytes 0 n) same.broadcast same.messages

  same-events : (e : Happening) → charger_events j.pack e ≡ charger_events k.pack e
  same-events (tick t) =
      ap (λ (ms : List (List ℕ)).
      cond t.first (charger.sample t.charger ∷ deliveries t.reply ms) (deliveries t.reply ms ++ charger.sample t.charger ∷ []))
      (same-messages t)
  same-events (host c) = refl
  same-events (asks c) = refl

  same-charger : (e : Happening) → (happen j e).charger ≡ (happen k e).charger
  same-charger e = ap₂ (λ (c : Charger) (es : List charger.Event). charger.run c es) h.charger (same-events e)

  same-pack : (e : Happening) → SameJoint (happen j e) (happen k e)
  same-pack (tick t) = record { pack = pack_step.leaves j.pack k.pack (pack_sample t) h.pack; charger = same-charger (tick t) }
  same-pack (host c) = record { pack = pack_step.leaves j.pack k.pack (call c) h.pack; charger = same-charger (host c) }
  same-pack (asks c) = record { pack = h.pack; charger = same-charger (asks c) }

  same-happening : (e : Happening) → SameHappening j k e
  same-happening (tick t) = (pack_step.gives j.pack k.pack (pack_sample t) h.pack, same-messages t)
  same-happening (host c) = pack_step.gives j.pack k.pack (call c) h.pack
  same-happening (asks c) = (ap (λ (s : Charger). charger.answer s c) h.charger, ap (λ (s : Charger). charger.reply s c) h.charger)

  same-idle : (e : Happening) → is_idle_on_bus j e ≡ is_idle_on_bus k e
  same-idle (tick t) = refl
  same-idle (host c) = pack_step.idle j.pack k.pack (call c) h.pack
  same-idle (asks c) = ap (λ (s : Charger). charger.is_idle s (charger.call c)) h.charger

  -- an idle one leaves both
  idle_keeps : (e : Happening) → is_idle_on_bus j e ≡ true → SameJoint (happen j e) k
  idle_keeps (tick t) i = absurd (true≢false (sym i))
  idle_keeps (host c) i = record { pack = pack_step.keeps j.pack k.pack (call c) h.pack i; charger = h.charger }
  idle_keeps (asks c) i = record { pack = h.pack; charger = (chargers.idle_event j.charger (charger.call c) i).0 ∙ h.charger }

step_law : StepLaw joint_party
step_law =
    record {
      keeps = λ j k e h i. idle_keeps j k h e i;
      gives = λ j k e h. same-happening j k h e;
      idle = λ j k e h. same-idle j k h e;
      leaves = λ j k e h. same-pack j k h e;
    }

pub chatter_on_bus : ChatterOnBus
chatter_on_bus u first hs left a r =
    let k = set_up_sound u first a in
    chatter_is_idle joint_party step_law (from_set_ups u first) (from_set_ups u first) hs left r
    (record { pack = record { pack = refl; sound_first = k; sound_second = k }; charger = refl })

pub current_undisturbed : CurrentUndisturbed
current_undisturbed u first hs left a r = ap current_of (chatter_on_bus u first hs left a r).state.charger
