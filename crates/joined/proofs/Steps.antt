-- What one happening does to the pack's charger timer, and to the charger.
-- Assumes nothing.
use Prim.Native.Nat.{ℕ, ◌+◌, ◌≤◌, min}
use mathlib.Core.Bool.{Bool, true, false, cond, not, ◌&&◌, true≢false}
use mathlib.Core.List.{List, [], ◌∷◌, ◌++◌}
use mathlib.Core.Logic.{inl, inr}
use mathlib.Core.Path.{◌≡◌, refl, ap, ◌∙◌, subst⁻¹}
use lib.Dec.{eqb, leb}
use Rattle.alarms.specs.Alarms.{charger_alarm, charging_current, terminate_charge}
use Rattle.broadcasts.specs.Broadcasts.{alarm_goes, charger_goes}
use Rattle.bus_laws.specs.Calls.{Call}
use Rattle.charger_state.specs.Charger.{sound_of as charger_sound, sampled_of as charger_sampled_of}
use Rattle.charger_written.specs.Written.{charger_written}
use Rattle.charger_state.specs.declared.Charger.{Charger}
use Rattle.pack.specs.declared.Answered.{Answered}
use Rattle.charger_laws.proofs.Cases.{sample_goes_on}
use Rattle.charger_laws.proofs.Laws.{step_sound as charger-step-sound, sound_stays as charger-sound-stays, idle_keeps}
use Rattle.charger_laws.specs.Events as charger
use Rattle.clock.specs.Broadcast.{sampled_of}
use Rattle.clock.specs.Sample.{moved_of}
use Rattle.clock_laws.proofs.Timers.{moved-charger, sampled-charger}
use Rattle.clock_laws.specs.Steps.{gap}
use Rattle.joined.proofs.Delivered.{broadcast_taken, tick_heard}
use Rattle.joined.specs.Joined.{Joint, Tick, Happening, tick, asks, pack_sample, pack_events, messages_from, deliveries, charger_events, happen, Fair}
use Rattle.pack.specs.Sound.{sound_of}
use Rattle.pack.specs.declared.Pack.{Pack}
use Rattle.pack.specs.declared.Sample.{Sample}
use Rattle.pack.specs.declared.State.{State}
use Rattle.rooms.proofs.Choice.{chosen}
use Rattle.runs.proofs.Histories.{run-sound, took, still_of}
use Rattle.runs.specs.Events.{call, step, accepted}
use Rattle.runs.specs.Histories.{Left}
use Rattle.status.specs.Status.{alarm_word}
use Rattle.written.specs.Written.{bit_set, host_written, timers_written, pack_written}

-- ---- both stay sound

abbrev pub BothSound : Joint → Type 0
BothSound j = (sound_of j.pack ≡ true) × (charger_sound j.charger ≡ true)

pub happen_sound : (j : Joint) (h : Happening) → BothSound j → BothSound (happen j h)
happen_sound j h (s, k) = (run-sound j.pack (pack_events h) s, charger-sound-stays j.charger (charger_events j.pack h) k)

-- ---- the charger at a tick

-- events one after another
run_append : (c : Charger) (es fs : List charger.Event) → charger.run c (es ++ fs) ≡ charger.run (charger.run c es) fs
run_append c [] fs = refl
run_append c (e ∷ es) fs = run_append (charger.step c e) es fs

-- it gets its sample and takes the broadcast, in one order or the other
pub tick_charger : (P : Charger → Type 0) (j : Joint) (t : Tick) → BothSound j → accepted j.pack (pack_sample t) ≡ true → 3 ≤ t.reply
    → P (broadcast_taken (charger_sampled_of j.charger t.charger) (moved_of j.pack.pack t.pack))
    → P (charger_sampled_of (broadcast_taken j.charger (moved_of j.pack.pack t.pack)) t.charger)
    → P (happen j (tick t)).charger
tick_charger P j t (s, k) a l first last =
    chosen (λ (es : List charger.Event). P (charger.run c es)) t.first (λ e. subst⁻¹ P before first) (λ e. subst⁻¹ P behind last)
  where
    c : Charger
    c = j.charger

    ds : List charger.Event
    ds = deliveries t.reply (messages_from j.pack t)

    sampled : (d : Charger) → charger_sound d ≡ true → charger.step d (charger.sample t.charger) ≡ charger_sampled_of d t.charger
    sampled d h = ap (λ (r : Answered Charger). r.state) (sample_goes_on d t.charger h)

    before : charger.run c (charger.sample t.charger ∷ ds) ≡ broadcast_taken (charger_sampled_of c t.charger) (moved_of j.pack.pack t.pack)
    before =
        tick_heard j.pack t (charger.step c (charger.sample t.charger)) a l (charger-step-sound c (charger.sample t.charger) k)
        ∙ ap (λ (d : Charger). broadcast_taken d (moved_of j.pack.pack t.pack)) (sampled c k)

    behind : charger.run c (ds ++ charger.sample t.charger ∷ []) ≡ charger_sampled_of (broadcast_taken c (moved_of j.pack.pack t.pack)) t.charger
    behind =
        run_append c ds (charger.sample t.charger ∷ [])
        ∙ sampled (charger.run c ds) (charger-sound-stays c ds k)
        ∙ ap (λ (d : Charger). charger_sampled_of d t.charger) (tick_heard j.pack t c a l k)

-- ---- the pack at a tick

module _ (j : Joint) (t : Tick) (a : accepted j.pack (pack_sample t) ≡ true) where
  -- at the moment of sending
  abbrev pub sending : Pack
  sending = moved_of j.pack.pack t.pack

  pub tick-pack : (happen j (tick t)).pack.pack ≡ sampled_of j.pack.pack t.pack
  tick-pack = (took j.pack t.pack t.room a).pack

  pub tick-timer : (happen j (tick t)).pack.pack.timers.charger ≡ cond (charger_goes sending) 0 sending.timers.charger
  tick-timer = ap (λ (p : Pack). p.timers.charger) tick-pack ∙ sampled-charger j.pack.pack t.pack

  pub tick-settings : (happen j (tick t)).pack.pack.settings ≡ j.pack.pack.settings
  unfolding sampled_of moved_of
  tick-settings = ap (λ (p : Pack). p.settings) tick-pack

  -- the flags at the moment of sending are those after the sample
  pub tick-alarms : charger_alarm (happen j (tick t)).pack.pack ≡ charger_alarm sending
  unfolding sampled_of
  tick-alarms = ap (λ (p : Pack). charger_alarm p) tick-pack

  pub tick-terminates : terminate_charge (happen j (tick t)).pack.pack ≡ terminate_charge sending
  unfolding sampled_of
  tick-terminates = ap (λ (p : Pack). terminate_charge p) tick-pack

-- with CHARGER_MODE clear the timer alone decides
pub timer_decides : (p : Pack) (x : Sample) → p.host.ChargerMode ≡ false
    → ((moved_of p x).timers.charger ≡ min 30000 (p.timers.charger + gap p x)) × (charger_goes (moved_of p x) ≡ leb 30000 (moved_of p x).timers.charger)
unfolding charger_goes moved_of
timer_decides p x m = (moved-charger p x ∙ ap (λ (b : Bool). cond b 0 (min 30000 (p.timers.charger + gap p x))) m, simp m)

-- ---- what the charger is asked

-- it stays as it is
pub asked_stays : (j : Joint) (c : charger.Call) → Fair j (asks c) → (happen j (asks c)).charger ≡ j.charger
asked_stays j c f = idle_keeps j.charger c f

-- ---- host traffic

-- the charger timer stays as long as CHARGER_MODE is clear after it; the settings stay
abbrev pub Untouched : Pack → Pack → Type 0
Untouched p q = (q.host.ChargerMode ≡ false → q.timers.charger ≡ p.timers.charger) × (q.settings ≡ p.settings)

kept_timer : (here b m : Bool) (timer : ℕ) → cond here b m ≡ false → cond here (cond b 0 timer) timer ≡ timer
kept_timer true true m timer e = absurd (true≢false e)
kept_timer true false m timer e = refl
kept_timer false b m timer e = refl

write_untouched : (p : Pack) (command word : ℕ) → Untouched p (pack_written p command word)
unfolding pack_written host_written timers_written
write_untouched p command word = (λ e. kept_timer (eqb command 0x03) (bit_set 14 word) p.host.ChargerMode p.timers.charger e, refl)

pub host_untouched : (s : State) (c : Call) → Untouched s.pack (step s (call c)).pack
host_untouched s c = go (step s (call c)).pack (still_of s (call c) refl).pack
  where
    go : (q : Pack) → Left s (call c) q → Untouched s.pack q
    go q (inl k) = (λ e. ap (λ (p : Pack). p.timers.charger) k, ap (λ (p : Pack). p.settings) k)
    go q (inr (command, word, w, k)) = subst⁻¹ (Untouched s.pack) k (write_untouched s.pack command word)
