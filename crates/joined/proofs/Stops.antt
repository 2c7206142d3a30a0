-- TERMINATE_CHARGE with CHARGER_MODE clear brings the charger's current to 0 within 31 s, for as long as both last.
-- Assumes nothing.
use Prim.Native.Nat.{ℕ, ◌+◌, ◌-◌, ◌≤◌, ◌<◌}
use mathlib.Core.Bool.{Bool, true, false, cond, ◌&&◌}
use mathlib.Core.List.{List, [], ◌∷◌, ◌++◌}
use mathlib.Core.Path.{◌≡◌, refl, sym, ap, ◌∙◌}
use native.Mathlib.Omega.{arith}
use borrow.Author.Tests.{le-leb, lt-leb}
use Rattle.alarms.specs.Alarms.{charger_alarm, charging_current, terminate_charge}
use Rattle.broadcasts.specs.Broadcasts.{alarm_goes, charger_goes}
use Rattle.capacity.proofs.Bounds.{either}
use Rattle.charger_state.specs.Charger.{stopped, current_of, sampled_of as charger_sampled_of}
use Rattle.charger_written.specs.Written.{charger_written}
use Rattle.charger_state.specs.declared.Charger.{Charger}
use Rattle.clock.specs.Sample.{moved_of}
use Rattle.clock_laws.specs.Steps.{gap}
use Rattle.joined.proofs.Delivered.{broadcast_taken}
use Rattle.joined.proofs.Steps.{BothSound, happen_sound, tick_charger, tick-timer, tick-terminates, timer_decides, asked_stays, host_untouched}
use Rattle.joined.specs.Joined.{Joint, Tick, Happening, tick, host, asks, events_of, happen, Fair, AllFair, Throughout, Within}
use Rattle.joined.specs.Promises.{Terminating, Off, StopsWithin, JoinedStops, StopsIn30999}
use Rattle.pack.specs.declared.Pack.{Pack}
use Rattle.runs.proofs.Histories.{timers_of, took}
use Rattle.runs.specs.Events.{time_of}
use Rattle.status.specs.Status.{alarm_word}
use Rattle.words.proofs.Integers.{split}

pub now_true : (P : Joint → Type 0) (j : Joint) (hs : List Happening) → Throughout P j hs → P j
now_true P j [] p = p
now_true P j (e ∷ hs) (p, ps) = p

-- ---- the request after a broadcast and a sample

-- the word that went, or as it was
abbrev Asks : Charger → Pack → Charger → Type 0
Asks c q d = d.ChargingCurrent.word ≡ cond (charger_goes q) (charging_current q) c.ChargingCurrent.word

taken_current : (c : Charger) (goes alarm : Bool) (word current voltage : ℕ)
    → (cond goes (charger_written (charger_written (cond alarm (charger_written c 0x16 word) c) 0x14 current) 0x15 voltage) (cond alarm (charger_written c 0x16 word) c)).ChargingCurrent.word
    ≡ cond goes current c.ChargingCurrent.word
unfolding charger_written
taken_current c true alarm word current voltage = refl
taken_current c false true word current voltage = refl
taken_current c false false word current voltage = refl

broadcast_asks : (c : Charger) (q : Pack) → Asks c q (broadcast_taken c q)
broadcast_asks c q = taken_current c (charger_goes q) (alarm_goes q && charger_alarm q) (alarm_word q) (charging_current q) q.settings.ChargingVoltage

tick_asks : (j : Joint) (t : Tick) → BothSound j → Fair j (tick t) → Asks j.charger (moved_of j.pack.pack t.pack) (happen j (tick t)).charger
unfolding charger_sampled_of
tick_asks j t s f =
    let q = moved_of j.pack.pack t.pack in
    tick_charger (Asks j.charger q) j t s f.0 f.1 (broadcast_asks (charger_sampled_of j.charger t.charger) q) (broadcast_asks j.charger q)

-- ---- it stays off

-- while TERMINATE_CHARGE is set the words ask for 0
asks_none : (q : Pack) → terminate_charge q ≡ true → charging_current q ≡ 0
asks_none q h = simp h

zero_stays : (j : Joint) (e : Happening) → BothSound j → Fair j e → Terminating (happen j e) → j.charger.ChargingCurrent.word ≡ 0
    → (happen j e).charger.ChargingCurrent.word ≡ 0
zero_stays j (tick t) s f (on, mode) z =
    let q = moved_of j.pack.pack t.pack in
    tick_asks j t s f
    ∙ either (λ (n : ℕ). n ≡ 0) (charger_goes q) _ _ (asks_none q (sym (tick-terminates j t f.0) ∙ on)) z
zero_stays j (host c) s f t z = z
zero_stays j (asks c) s f t z = ap (λ (d : Charger). d.ChargingCurrent.word) (asked_stays j c f) ∙ z

-- a request of 0 gives no current
zero_off : (c : Charger) → c.ChargingCurrent.word ≡ 0 → current_of c ≡ 0
unfolding current_of
zero_off c z = either (λ (n : ℕ). n ≡ 0) (stopped c) 0 c.ChargingCurrent.word refl z

stays_off : (j : Joint) (hs : List Happening) → BothSound j → AllFair j hs → Throughout Terminating j hs → j.charger.ChargingCurrent.word ≡ 0 → Throughout Off j hs
stays_off j [] s f t z = zero_off j.charger z
stays_off j (e ∷ hs) s (f, fs) (t, ts) z = (
  zero_off j.charger z,
  stays_off (happen j e) hs (happen_sound j e s) fs ts (zero_stays j e s f (now_true Terminating (happen j e) hs ts) z),
)

-- ---- what comes in the rest comes in the whole

later : (most passed : ℕ) (P : Joint → Type 0) (j : Joint) (h : Happening) (hs : List Happening)
    → ((rest : List Happening) → time_of j.pack (events_of (h ∷ rest)) ≡ passed + time_of (happen j h).pack (events_of rest))
    → passed ≤ most → Within (most - passed) P (happen j h) hs → Within most P j (h ∷ hs)
later most passed P j h hs e m w =
    record {
      before = h ∷ w.before;
      at = w.at;
      after = w.after;
      splits = ap (λ (r : List Happening). h ∷ r) w.splits;
      soon = omega (arith, w.soon, e (w.before ++ tick w.at ∷ []), m);
      lasts = w.lasts;
    }

-- ---- the words go when the timer comes to 30,000

-- what comes with the words comes within what the timer lacks and one gap more; Kept lasts, and Inv holds from the start
module _ (Kept Inv Good : Joint → Type 0)
    (keeps : (j : Joint) (e : Happening) → BothSound j → Fair j e → Inv j → Inv (happen j e))
    (at : (j : Joint) (t : Tick) (hs : List Happening) → BothSound j → AllFair j (tick t ∷ hs) → Throughout Kept j (tick t ∷ hs) → Inv j
    → charger_goes (moved_of j.pack.pack t.pack) ≡ true → Throughout Good (happen j (tick t)) hs)
    (clear : (j : Joint) → Kept j → j.pack.pack.host.ChargerMode ≡ false) where
  pub waits : (j : Joint) (hs : List Happening) (most : ℕ) → BothSound j → AllFair j hs → Throughout Kept j hs → Inv j
      → 30000 ≤ j.pack.pack.timers.charger + time_of j.pack (events_of hs) → 30999 ≤ j.pack.pack.timers.charger + most → Within most Good j hs
  waits j [] most s f k i h m = absurd (omega (arith, h, (timers_of j.pack s.0).charger))
  waits j (host c ∷ hs) most s (f, fs) (k, ks) i h m =
      let same = (host_untouched j.pack c).0 (clear (happen j (host c)) (now_true Kept (happen j (host c)) hs ks)) in
      later most 0 Good j (host c) hs (λ rest. refl) (omega arith)
      (waits (happen j (host c)) hs (most - 0) (happen_sound j (host c) s) fs ks (keeps j (host c) s f i) (omega (arith, h, same)) (omega (arith, m, same)))
  waits j (asks c ∷ hs) most s (f, fs) (k, ks) i h m =
      later most 0 Good j (asks c) hs (λ rest. omega arith) (omega arith)
      (waits (happen j (asks c)) hs (most - 0) (happen_sound j (asks c) s) fs ks (keeps j (asks c) s f i) h (omega (arith, m)))
  waits j (tick t ∷ hs) most s (f, fs) (k, ks) i h m =
      let p = j.pack.pack in
      let q = moved_of p t.pack in
      let d = timer_decides p t.pack (clear j k) in
      let low = (timers_of j.pack s.0).charger in
      let time = (took j.pack t.pack t.room f.0).time in
      split (p.timers.charger + gap p t.pack) 30000
      (λ (less : p.timers.charger + gap p t.pack < 30000).
      let quiet : charger_goes q ≡ false = d.1 ∙ lt-leb 30000 q.timers.charger (omega (arith, d.0, less)) in
      let timer = tick-timer j t f.0 ∙ ap (λ (b : Bool). cond b 0 q.timers.charger) quiet ∙ d.0 in
      later most (gap p t.pack) Good j (tick t) hs (λ rest. ap (λ (n : ℕ). n + time_of (happen j (tick t)).pack (events_of rest)) time) (omega (arith, less, m))
      (waits (happen j (tick t)) hs (most - gap p t.pack) (happen_sound j (tick t) s) fs ks (keeps j (tick t) s f i)
      (omega (arith, h, timer, time, less)) (omega (arith, m, timer, less))))
      (λ (more : 30000 ≤ p.timers.charger + gap p t.pack).
      let goes : charger_goes q ≡ true = d.1 ∙ le-leb 30000 q.timers.charger (omega (arith, d.0, more)) in
      record {
        before = [];
        at = t;
        after = hs;
        splits = refl;
        soon = omega (arith, time, f.3, low, m);
        lasts = at j t hs s (f, fs) (k, ks) i goes;
      })

-- ---- the theorem

goes_off : (j : Joint) (t : Tick) (hs : List Happening) → BothSound j → AllFair j (tick t ∷ hs) → Throughout Terminating j (tick t ∷ hs) → Unit {0}
    → charger_goes (moved_of j.pack.pack t.pack) ≡ true → Throughout Off (happen j (tick t)) hs
goes_off j t hs s (f, fs) (k, ks) i goes =
    let q = moved_of j.pack.pack t.pack in
    let on = (now_true Terminating (happen j (tick t)) hs ks).0 in
    stays_off (happen j (tick t)) hs (happen_sound j (tick t) s) fs ks
    (tick_asks j t s f
    ∙ ap (λ (b : Bool). cond b (charging_current q) j.charger.ChargingCurrent.word) goes
    ∙ asks_none q (sym (tick-terminates j t f.0) ∙ on))

off_within : (most : ℕ) → 30999 ≤ most → StopsWithin most
off_within most m j hs h k f t l =
    waits Terminating (λ (i : Joint). Unit {0}) Off (λ i e s r u. tt) goes_off (λ i x. x.1) j hs most (h, k) f t tt (omega (arith, l)) (omega (arith, m))

pub joined_stops : JoinedStops
joined_stops = off_within 31000 (omega arith)

pub stops_in_30999 : StopsIn30999
stops_in_30999 = off_within 30999 (omega arith)
