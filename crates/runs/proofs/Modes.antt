-- Holds and silences.
-- Assumes nothing.
use Prim.Native.Nat.{ℕ, ◌+◌, ◌-◌, ◌≤◌, min}
use mathlib.Core.Bool.{Bool, true, false, cond}
use mathlib.Core.List.{List}
use mathlib.Core.Path.{◌≡◌, refl, ap, ◌∙◌, subst}
use native.Mathlib.Omega.{arith}
use borrow.Author.Tests.{eqb-true, ne_eqb}
use lib.Dec.{eqb}
use Rattle.bus.specs.Transact.{pack_after, transact_of}
use Rattle.bus_laws.proofs.Served.{writes_asked}
use Rattle.bus_laws.specs.Calls.{answer}
use Rattle.clock_laws.proofs.Timers.{alarm_silent, charger_silent, moved-alarm-mode, moved-charger-mode, sampled-hold, sampled-charger-mode}
use Rattle.clock_laws.specs.Steps.{gap}
use Rattle.clock.specs.Sample.{moved_of}
use Rattle.frame.specs.declared.Request.{Request}
use Rattle.pack.specs.Sound.{sound_of}
use Rattle.pack.specs.declared.Pack.{Pack}
use Rattle.pack.specs.declared.State.{State}
use Rattle.runs.proofs.Apart.{time_append}
use Rattle.runs.proofs.Histories.{run-sound, timers_of, took, carried}
use Rattle.runs.specs.Alarms.{NoModeWrite}
use Rattle.runs.specs.Events.{Event, sample, call, step, run, Throughout, time_of, ServedWrite}
use Rattle.runs.specs.Promises.{HoldStarts, HoldLasts, HoldEnds, ClearsItself, AlarmsHeld, ChargerSilent}
use Rattle.written.specs.Written.{bit_set, host_written, timers_written, pack_written}

-- ---- a write to 03 or not (here), with bit 13 or 14 (b), of which there is none such

down : (here b : Bool) (t : ℕ) → (here ≡ true → b ≡ true → ⊥) → cond here (cond b 60000 0) t ≤ t
down true true t no_such = absurd (no_such refl refl)
down true false t no_such = omega arith
down false b t no_such = omega arith

up : (here b : Bool) (t : ℕ) → (here ≡ true → b ≡ false → ⊥) → min t 60000 ≤ cond here (cond b 60000 0) t
up true true t no_such = omega arith
up true false t no_such = absurd (no_such refl refl)
up false b t no_such = omega arith

stays_on : (here b m : Bool) → (here ≡ true → b ≡ false → ⊥) → m ≡ true → cond here b m ≡ true
stays_on true true m no_such h = refl
stays_on true false m no_such h = absurd (no_such refl refl)
stays_on false b m no_such h = h

none_such : (k : ℕ) (on : Bool) (s : State) (e : Event) (command word : ℕ) → NoModeWrite k on s e → ServedWrite s e command word
    → eqb command 0x03 ≡ true → bit_set k word ≡ on → ⊥
none_such k on s e command word no_write w here b = no_write (word, subst (λ (n : ℕ). ServedWrite s e n word) (eqb-true command 3 here) w, b)

-- ---- over a history

hold_most : (s : State) (es : List Event) → sound_of s ≡ true → Throughout (NoModeWrite 13 true) s es
    → (run s es).pack.timers.hold ≤ s.pack.timers.hold - time_of s es
unfolding pack_written timers_written
hold_most =
    carried (λ p t q. q.timers.hold ≤ p.timers.hold - t) (NoModeWrite 13 true) (λ p. omega arith) (λ p q r m n a b. omega arith)
    (λ s e command word a w. omega (arith, down (eqb command 0x03) (bit_set 13 word) s.pack.timers.hold (none_such 13 true s e command word a w)))
    (λ s x n a b. omega (arith, sampled-hold s.pack x))

hold_least : (s : State) (es : List Event) → sound_of s ≡ true → Throughout (NoModeWrite 13 false) s es
    → min s.pack.timers.hold 60000 ≤ (run s es).pack.timers.hold + time_of s es
unfolding pack_written timers_written
hold_least =
    carried (λ p t q. min p.timers.hold 60000 ≤ q.timers.hold + t) (NoModeWrite 13 false) (λ p. omega arith) (λ p q r m n a b. omega arith)
    (λ s e command word a w. omega (arith, up (eqb command 0x03) (bit_set 13 word) s.pack.timers.hold (none_such 13 false s e command word a w)))
    (λ s x n a b. omega (arith, sampled-hold s.pack x))

charger_mode : (s : State) (es : List Event) → sound_of s ≡ true → Throughout (NoModeWrite 14 false) s es
    → s.pack.host.ChargerMode ≡ true → (run s es).pack.host.ChargerMode ≡ true
unfolding pack_written host_written
charger_mode =
    carried (λ p t q. p.host.ChargerMode ≡ true → q.host.ChargerMode ≡ true) (NoModeWrite 14 false) (λ p m. m) (λ p q r m n a b c. b (a c))
    (λ s e command word a w. stays_on (eqb command 0x03) (bit_set 14 word) s.pack.host.ChargerMode (none_such 14 false s e command word a w))
    (λ s x n a b m. sampled-charger-mode s.pack x ∙ m)

-- ---- the theorems

pub hold_starts : HoldStarts
unfolding transact_of pack_written timers_written host_written
hold_starts s (sample x n) (word, w, b) = absurd w
hold_starts s (call c) (word, (w, v), b) =
    let e : (step s (call c)).pack ≡ pack_written s.pack 3 word =
    ap (λ (q : Request). pack_after s.pack q (answer s c)) (writes_asked c 3 word w) ∙ ap (λ (on : Bool). cond on (pack_written s.pack 3 word) s.pack) v in
    (ap (λ (p : Pack). p.timers.hold) e ∙ ap (λ (on : Bool). cond on 60000 0) b, ap (λ (p : Pack). p.host.AlarmMode) e ∙ b)

not_clear : (b : Bool) → (b ≡ false → ⊥) → b ≡ true
not_clear true n = refl
not_clear false n = absurd (n refl)

pub hold_lasts : HoldLasts
hold_lasts s es h n l =
    not_clear (run s es).pack.host.AlarmMode
    (λ c. omega (arith, (timers_of (run s es) (run-sound s es h)).clear c, hold_least s es h n, l, (timers_of s h).hold))

pub hold_ends : HoldEnds
hold_ends s es h n l = (timers_of (run s es) (run-sound s es h)).ended (omega (arith, hold_most s es h n, l))

pub clears_itself : ClearsItself
clears_itself s es h n l = hold_ends s es h n (omega (arith, l, (timers_of s h).hold))

pub alarms_held : AlarmsHeld
alarms_held s es x m h n a l =
    let p = (run s es).pack in
    let later = time_append s es (sample x m) in
    let left : (p.timers.hold - gap p x ≡ 0) → ⊥ = λ z. omega (arith, z, hold_least s es h n, later, (took (run s es) x m a).time, l, (timers_of s h).hold) in
    alarm_silent (moved_of p x) (moved-alarm-mode p x ∙ simp (hold_lasts s es h n (omega (arith, later, l)), ne_eqb (p.timers.hold - gap p x) 0 left))

pub charger_silent_on : ChargerSilent
charger_silent_on s es x h n m = charger_silent (moved_of (run s es).pack x) (moved-charger-mode (run s es).pack x ∙ charger_mode s es h n m)
