-- While an alarm bit is set at every accepted sample, an alarm goes in every 11 s; the first goes at once.
-- Assumes nothing.
use Prim.Native.Nat.{ℕ, ◌+◌, ◌-◌, ◌≤◌, ◌<◌, min}
use mathlib.Core.Bool.{true, false}
use mathlib.Core.List.{List, [], ◌∷◌}
use mathlib.Core.Path.{◌≡◌, refl, ap, ◌∙◌}
use native.Mathlib.Omega.{arith}
use borrow.Author.Tests.{le-leb, lt-leb}
use Rattle.clock.specs.Broadcast.{sampled_of}
use Rattle.clock.specs.Sample.{moved_of}
use Rattle.clock_laws.proofs.Timers.{timer_decides, counts-on, moved-alarm}
use Rattle.clock_laws.specs.Steps.{gap}
use Rattle.alarms.specs.Alarms.{any_alarm}
use Rattle.start.specs.SetUp.{pack_of}
use Rattle.pack.specs.Sound.{sound_of}
use Rattle.pack.specs.declared.Pack.{Pack}
use Rattle.pack.specs.declared.Sample.{Sample}
use Rattle.pack.specs.declared.State.{State}
use Rattle.runs.proofs.Histories.{timers_of, seen_through, still_keeps, carried}
use Rattle.runs.proofs.Measures.{set_up_sound, set_up_pack}
use Rattle.runs.specs.Alarms.{Alarming, NoAlarm, AlarmWithin}
use Rattle.runs.specs.Events.{Event, sample, step, run, Throughout, passes, time_of}
use Rattle.runs.specs.Histories.{Took, History, done, still-then, took-then}
use Rattle.runs.specs.Promises.{AlarmIn11s, FirstAtOnce}
use Rattle.runs.specs.Since.{from_set_up}
use Rattle.words.proofs.Integers.{split}
use Rattle.written.specs.Written.{timers_written, pack_written}

-- a write leaves the alarm timer as it was
written_alarm : (p : Pack) (command word : ℕ) → (pack_written p command word).timers.alarm ≡ p.timers.alarm
unfolding pack_written timers_written
written_alarm p command word = refl

-- an alarm that goes in the rest of a history goes in the whole
later : (most : ℕ) (s : State) (e : Event) (es : List Event) → passes s e ≤ most → AlarmWithin (most - passes s e) (step s e) es → AlarmWithin most s (e ∷ es)
later most s e es h w =
    record {
      before = e ∷ w.before;
      x = w.x;
      n = w.n;
      after = w.after;
      splits = ap (λ (r : List Event). e ∷ r) w.splits;
      is_accepted = w.is_accepted;
      goes = w.goes;
      soon = omega (arith, h, w.soon);
    }

module _ (s : State) (x : Sample) (n : ℕ) (k : Took s x n) (any : any_alarm (moved_of s.pack x) ≡ true) (clear : (moved_of s.pack x).host.AlarmMode ≡ false) where
  -- the timer has reached its mark: at this sample
  now-goes : (most : ℕ) (es : List Event) → gap s.pack x ≤ 1000 → 10000 ≤ s.pack.timers.alarm + gap s.pack x → 1000 ≤ most → AlarmWithin most s (sample x n ∷ es)
  now-goes most es near h m =
      record {
        before = [];
        x = x;
        n = n;
        after = es;
        splits = refl;
        is_accepted = k.is_accepted;
        goes = timer_decides (moved_of s.pack x) any clear ∙ le-leb 10000 (moved_of s.pack x).timers.alarm (omega (arith, moved-alarm s.pack x, h));
        soon = omega (arith, near, m, k.time);
      }

  -- it hasn't: it comes nearer by what elapsed
  nearer : s.pack.timers.alarm + gap s.pack x < 10000 → (step s (sample x n)).pack.timers.alarm ≡ s.pack.timers.alarm + gap s.pack x
  nearer h =
      let low : (moved_of s.pack x).timers.alarm < 10000 = omega (arith, moved-alarm s.pack x, h) in
      let on : (sampled_of s.pack x).timers.alarm ≡ min 10000 (s.pack.timers.alarm + gap s.pack x) =
      counts-on s.pack x (timer_decides (moved_of s.pack x) any clear ∙ lt-leb 10000 (moved_of s.pack x).timers.alarm low) in
      let same : (step s (sample x n)).pack.timers.alarm ≡ (sampled_of s.pack x).timers.alarm = ap (λ (p : Pack). p.timers.alarm) k.pack in
      omega (arith, h, on, same)

-- what the timer lacks to its mark, and one gap more
waits : (s : State) (es : List Event) (most : ℕ) → History s es → s.pack.timers.alarm ≤ 10000 → Throughout Alarming s es
    → 10000 ≤ min s.pack.timers.alarm 9999 + time_of s es → 11000 ≤ s.pack.timers.alarm + most → AlarmWithin most s es
waits s es most done t a h m = absurd (omega (arith, h))
waits s es most (still-then {e = e} {es = rest} w r) t a h m =
    let same = still_keeps (λ p. p.timers.alarm) written_alarm s e w in
    later most s e rest (omega (arith, w.time))
    (waits (step s e) rest (most - passes s e) r (omega (arith, same, t)) a.1 (omega (arith, same, w.time, h)) (omega (arith, same, w.time, m)))
waits s es most (took-then {x = x} {n = n} {es = rest} k r) t a h m =
    let at = a.0 k.is_accepted in
    split (s.pack.timers.alarm + gap s.pack x) 10000
    (λ l.
    let on = nearer s x n k at.0 at.1 l in
    later most s (sample x n) rest (omega (arith, k.time, l, m))
    (waits (step s (sample x n)) rest (most - passes s (sample x n)) r (omega (arith, on, l)) a.1
    (omega (arith, on, l, h, k.time)) (omega (arith, on, l, m, k.time))))
    (λ l. now-goes s x n k at.0 at.1 most rest at.2 l (omega (arith, t, m)))

pub alarm_in_11_s : AlarmIn11s
alarm_in_11_s s es h a t = waits s es 11000 (seen_through s es h) (timers_of s h).alarm a (omega (arith, t)) (omega arith)

-- until an alarm goes the timer stands
stands : (s : State) (es : List Event) → sound_of s ≡ true → Throughout NoAlarm s es → s.pack.timers.alarm ≡ 10000 → (run s es).pack.timers.alarm ≡ 10000
stands =
    carried (λ p t q. p.timers.alarm ≡ 10000 → q.timers.alarm ≡ 10000) NoAlarm (λ p t. t) (λ p q r m n a b t. b (a t))
    (λ s e command word a w t. written_alarm s.pack command word ∙ t) (λ s x n a b t. omega (arith, counts-on s.pack x (a b), t))

pub first_at_once : FirstAtOnce
unfolding pack_of
first_at_once u first es x a n any clear =
    let p = (run (from_set_up u first) es).pack in
    let t : p.timers.alarm ≡ 10000 =
    stands (from_set_up u first) es (set_up_sound u first a) n (ap (λ (q : Pack). q.timers.alarm) (set_up_pack u first a)) in
    timer_decides (moved_of p x) any clear ∙ le-leb 10000 (moved_of p x).timers.alarm (omega (arith, moved-alarm p x, t))
