-- The way back: once no alarm for the charger stands, its current is the pack's ChargingCurrent within 31 s.
-- Assumes nothing.
use Prim.Native.Nat.{ℕ, ◌+◌, ◌≤◌, ◌<◌}
use mathlib.Core.Bool.{Bool, true, false, cond, ◌&&◌, ◌||◌, and-false, true≢false}
use mathlib.Core.List.{List, [], ◌∷◌}
use mathlib.Core.Path.{◌≡◌, refl, sym, ap, ◌∙◌, subst}
use native.Mathlib.Omega.{arith}
use borrow.Author.Tests.{le-leb, lt-leb}
use Rattle.alarms.specs.Alarms.{charger_alarm, charging_current, terminate_charge, over_temp}
use Rattle.broadcasts.specs.Broadcasts.{alarm_goes, charger_goes}
use Rattle.charger_state.specs.Charger.{current_of, sampled_of as charger_sampled_of}
use Rattle.charger_written.specs.Written.{taken_as, charger_written}
use Rattle.charger_state.specs.declared.Charger.{Charger}
use Rattle.charger_laws.proofs.Alarms.{both_taken}
use Rattle.clock.specs.Sample.{elapsed_of, moved_of}
use Rattle.clock_laws.specs.Steps.{gap}
use Rattle.joined.proofs.Delivered.{broadcast_taken}
use Rattle.joined.proofs.Steps.{BothSound, happen_sound, tick_charger, tick-timer, tick-settings, tick-alarms, timer_decides, asked_stays, host_untouched}
use Rattle.joined.proofs.Stops.{now_true, waits}
use Rattle.joined.specs.Joined.{Joint, Tick, Happening, tick, host, asks, happen, Fair, AllFair, Throughout}
use Rattle.joined.specs.Promises.{Charging, Follows, JoinedReturns}
use Rattle.pack.specs.declared.Pack.{Pack}
use Rattle.pack.specs.declared.Sample.{Sample}
use Rattle.pack.specs.declared.Settings.{Settings}
use Rattle.runs.proofs.Histories.{timers_of}
use Rattle.status.specs.Status.{alarm_word}
use Rattle.words.proofs.Integers.{split}

-- ---- a charger that runs

-- on these requests, its count at most n
record Runs (current voltage n : ℕ) (c : Charger) : Type 0 where
  asked_current : c.ChargingCurrent ≡ taken_as current
  asked_voltage : c.ChargingVoltage ≡ taken_as voltage
  free : c.inhibited ≡ false
  counted : c.count ≤ n

runs_current : (c : Charger) (current voltage n : ℕ) → (voltage ≡ 0 → ⊥) → n < 175000 → Runs current voltage n c → current_of c ≡ current
runs_current c current voltage n v l r =
    both_taken c current voltage c.count r.free v (omega (arith, r.counted, l)) r.asked_current r.asked_voltage refl

more : (c : Charger) (current voltage n m : ℕ) → n ≤ m → Runs current voltage n c → Runs current voltage m c
more c current voltage n m l r =
    record { asked_current = r.asked_current; asked_voltage = r.asked_voltage; free = r.free; counted = omega (arith, l, r.counted) }

runs_sampled : (c : Charger) (y : Sample) (current voltage n : ℕ) → Runs current voltage n c
    → Runs current voltage (n + elapsed_of y.counter c.latest.counter) (charger_sampled_of c y)
unfolding charger_sampled_of
runs_sampled c y current voltage n r =
    record { asked_current = r.asked_current; asked_voltage = r.asked_voltage; free = r.free; counted = omega (arith, r.counted) }

runs_words : (c : Charger) (current voltage : ℕ) → c.inhibited ≡ false → Runs current voltage 0 (charger_written (charger_written c 0x14 current) 0x15 voltage)
unfolding charger_written
runs_words c current voltage i = record { asked_current = refl; asked_voltage = refl; free = i; counted = omega arith }

words_clock : (c : Charger) (current voltage : ℕ) → (charger_written (charger_written c 0x14 current) 0x15 voltage).latest.counter ≡ c.latest.counter
unfolding charger_written
words_clock c current voltage = refl

-- ---- a broadcast with no alarm for the charger

broadcast_words : (c : Charger) (q : Pack) → charger_alarm q ≡ false → charger_goes q ≡ true
    → broadcast_taken c q ≡ charger_written (charger_written c 0x14 (charging_current q)) 0x15 q.settings.ChargingVoltage
broadcast_words c q a g = simp (a, and-false, g)

broadcast_none : (c : Charger) (q : Pack) → charger_alarm q ≡ false → charger_goes q ≡ false → broadcast_taken c q ≡ c
broadcast_none c q a g = simp (a, and-false, g)

asks_setting : (q : Pack) → charger_alarm q ≡ false → charging_current q ≡ q.settings.ChargingCurrent
asks_setting q = go (terminate_charge q) (over_temp q)
  where
    go : (terminates hot : Bool) → terminates || hot ≡ false → cond terminates 0 q.settings.ChargingCurrent ≡ q.settings.ChargingCurrent
    go true hot e = absurd (true≢false e)
    go false hot e = refl

moved_settings : (p : Pack) (x : Sample) → (moved_of p x).settings ≡ p.settings
unfolding moved_of
moved_settings p x = refl

-- ---- a tick

module _ (j : Joint) (t : Tick) (s : BothSound j) (f : Fair j (tick t)) (a : charger_alarm (moved_of j.pack.pack t.pack) ≡ false) where
  abbrev q : Pack
  q = moved_of j.pack.pack t.pack

  abbrev current : ℕ
  current = j.pack.pack.settings.ChargingCurrent

  abbrev voltage : ℕ
  voltage = j.pack.pack.settings.ChargingVoltage

  words-run : (c : Charger) → c.inhibited ≡ false → charger_goes q ≡ true → Runs current voltage 0 (broadcast_taken c q)
  words-run c i g =
      subst (Runs current voltage 0)
      (sym (broadcast_words c q a g
      ∙ ap (λ (n : ℕ). charger_written (charger_written c 0x14 n) 0x15 q.settings.ChargingVoltage) (asks_setting q a)
      ∙ ap (λ (u : Settings). charger_written (charger_written c 0x14 u.ChargingCurrent) 0x15 u.ChargingVoltage) (moved_settings j.pack.pack t.pack)))
      (runs_words c current voltage i)

  -- the words go: it runs
  goes-runs : j.charger.inhibited ≡ false → charger_goes q ≡ true → Runs current voltage 1000 (happen j (tick t)).charger
  unfolding charger_sampled_of
  goes-runs i g =
      let c = j.charger in
      let d = broadcast_taken c q in
      let e = ap (λ (n : ℕ). elapsed_of t.charger.counter n) (ap (λ (x : Charger). x.latest.counter) (broadcast_words c q a g) ∙ words_clock c (charging_current q) q.settings.ChargingVoltage) in
      tick_charger (Runs current voltage 1000) j t s f.0 f.1
      (more (broadcast_taken (charger_sampled_of c t.charger) q) current voltage 0 1000 (omega arith) (words-run (charger_sampled_of c t.charger) i g))
      (more (charger_sampled_of d t.charger) current voltage _ 1000 (omega (arith, e, f.2, f.3)) (runs_sampled d t.charger current voltage 0 (words-run c i g)))

  -- none go: it runs on
  quiet-runs : (n : ℕ) → charger_goes q ≡ false → Runs current voltage n j.charger → Runs current voltage (n + gap j.pack.pack t.pack) (happen j (tick t)).charger
  quiet-runs n g r =
      let c = j.charger in
      let on = more (charger_sampled_of c t.charger) current voltage _ (n + gap j.pack.pack t.pack) (omega (arith, f.2)) (runs_sampled c t.charger current voltage n r) in
      tick_charger (Runs current voltage (n + gap j.pack.pack t.pack)) j t s f.0 f.1
      (subst (Runs current voltage (n + gap j.pack.pack t.pack)) (sym (broadcast_none (charger_sampled_of c t.charger) q a g)) on)
      (subst (Runs current voltage (n + gap j.pack.pack t.pack)) (ap (λ (d : Charger). charger_sampled_of d t.charger) (sym (broadcast_none c q a g))) on)

-- ---- from then on

-- it runs on the pack's settings, its count at most 1 s ahead of the pack's charger timer
abbrev Running : Joint → Type 0
Running j = Runs j.pack.pack.settings.ChargingCurrent j.pack.pack.settings.ChargingVoltage (j.pack.pack.timers.charger + 1000) j.charger

running_is : (j : Joint) (settings : Settings) (n : ℕ) → settings ≡ j.pack.pack.settings → n ≤ j.pack.pack.timers.charger + 1000
    → Runs settings.ChargingCurrent settings.ChargingVoltage n j.charger → Running j
running_is j settings n e l r =
    more j.charger _ _ n _ l (subst (λ (u : Settings). Runs u.ChargingCurrent u.ChargingVoltage n j.charger) e r)

starts : (j : Joint) (t : Tick) → BothSound j → Fair j (tick t) → Charging (happen j (tick t)) → j.charger.inhibited ≡ false
    → charger_goes (moved_of j.pack.pack t.pack) ≡ true → Running (happen j (tick t))
starts j t s f k i g =
    running_is (happen j (tick t)) j.pack.pack.settings 1000 (sym (tick-settings j t f.0)) (omega arith)
    (goes-runs j t s f (sym (tick-alarms j t f.0) ∙ k.0) i g)

runs_on : (j : Joint) (e : Happening) → BothSound j → Fair j e → Charging j → Charging (happen j e) → Running j → Running (happen j e)
runs_on j (host c) s f k k' r =
    let u = host_untouched j.pack c in
    running_is (happen j (host c)) j.pack.pack.settings _ (sym u.1) (omega (arith, u.0 k'.1)) r
runs_on j (asks c) s f k k' r = subst (Runs _ _ _) (sym (asked_stays j c f)) r
runs_on j (tick t) s f k k' r =
    let p = j.pack.pack in
    let q = moved_of p t.pack in
    let d = timer_decides p t.pack k.1 in
    split q.timers.charger 30000
    (λ (less : q.timers.charger < 30000).
    let quiet : charger_goes q ≡ false = d.1 ∙ lt-leb 30000 q.timers.charger less in
    let timer = tick-timer j t f.0 ∙ ap (λ (b : Bool). cond b 0 q.timers.charger) quiet in
    running_is (happen j (tick t)) p.settings _ (sym (tick-settings j t f.0)) (omega (arith, timer, d.0, less))
    (quiet-runs j t s f (sym (tick-alarms j t f.0) ∙ k'.0) (p.timers.charger + 1000) quiet r))
    (λ (full : 30000 ≤ q.timers.charger). starts j t s f k' r.free (d.1 ∙ le-leb 30000 q.timers.charger full))

running_follows : (j : Joint) → BothSound j → (j.pack.pack.settings.ChargingVoltage ≡ 0 → ⊥) → Running j → Follows j
running_follows j s v r =
    runs_current j.charger j.pack.pack.settings.ChargingCurrent j.pack.pack.settings.ChargingVoltage (j.pack.pack.timers.charger + 1000) v
    (omega (arith, (timers_of j.pack s.0).charger)) r

-- ---- what holds from the start

-- the charger isn't inhibited, and the pack asks for a voltage
abbrev Ready : Joint → Type 0
Ready j = (j.charger.inhibited ≡ false) × (j.pack.pack.settings.ChargingVoltage ≡ 0 → ⊥)

settings_stay : (j : Joint) (e : Happening) → Fair j e → (happen j e).pack.pack.settings ≡ j.pack.pack.settings
settings_stay j (tick t) f = tick-settings j t f.0
settings_stay j (host c) f = (host_untouched j.pack c).1
settings_stay j (asks c) f = refl

voltage_stays : (j : Joint) (e : Happening) → Fair j e → (j.pack.pack.settings.ChargingVoltage ≡ 0 → ⊥) → (happen j e).pack.pack.settings.ChargingVoltage ≡ 0 → ⊥
voltage_stays j e f v z = v (sym (ap (λ (u : Settings). u.ChargingVoltage) (settings_stay j e f)) ∙ z)

-- no message of the pack inhibits the charger
taken_free : (c : Charger) (goes alarm : Bool) (word current voltage : ℕ)
    → (cond goes (charger_written (charger_written (cond alarm (charger_written c 0x16 word) c) 0x14 current) 0x15 voltage) (cond alarm (charger_written c 0x16 word) c)).inhibited ≡ c.inhibited
unfolding charger_written
taken_free c true true word current voltage = refl
taken_free c true false word current voltage = refl
taken_free c false true word current voltage = refl
taken_free c false false word current voltage = refl

free_stays : (j : Joint) (e : Happening) → BothSound j → Fair j e → (happen j e).charger.inhibited ≡ j.charger.inhibited
unfolding charger_sampled_of
free_stays j (host c) s f = refl
free_stays j (asks c) s f = ap (λ (d : Charger). d.inhibited) (asked_stays j c f)
free_stays j (tick t) s f =
    let q = moved_of j.pack.pack t.pack in
    let free : (c : Charger) → (broadcast_taken c q).inhibited ≡ c.inhibited =
    λ c. taken_free c (charger_goes q) (alarm_goes q && charger_alarm q) (alarm_word q) (charging_current q) q.settings.ChargingVoltage in
    tick_charger (λ d. d.inhibited ≡ j.charger.inhibited) j t s f.0 f.1 (free (charger_sampled_of j.charger t.charger)) (free j.charger)

follows_on : (j : Joint) (hs : List Happening) → BothSound j → AllFair j hs → Throughout Charging j hs → (j.pack.pack.settings.ChargingVoltage ≡ 0 → ⊥) → Running j
    → Throughout Follows j hs
follows_on j [] s f k v r = running_follows j s v r
follows_on j (e ∷ hs) s (f, fs) (k, ks) v r = (
  running_follows j s v r,
  follows_on (happen j e) hs (happen_sound j e s) fs ks (voltage_stays j e f v) (runs_on j e s f k (now_true Charging (happen j e) hs ks) r),
)

-- ---- the theorem

goes_follows : (j : Joint) (t : Tick) (hs : List Happening) → BothSound j → AllFair j (tick t ∷ hs) → Throughout Charging j (tick t ∷ hs) → Ready j
    → charger_goes (moved_of j.pack.pack t.pack) ≡ true → Throughout Follows (happen j (tick t)) hs
goes_follows j t hs s (f, fs) (k, ks) (i, v) goes =
    follows_on (happen j (tick t)) hs (happen_sound j (tick t) s) fs ks (voltage_stays j (tick t) f v)
    (starts j t s f (now_true Charging (happen j (tick t)) hs ks) i goes)

pub joined_returns : JoinedReturns
joined_returns j hs h k i v f t l =
    waits Charging Ready Follows (λ d e s r u. (free_stays d e s r ∙ u.0, voltage_stays d e r u.1)) goes_follows (λ d x. x.1) j hs 31000 (h, k) f t (i, v)
    (omega (arith, l)) (omega arith)
