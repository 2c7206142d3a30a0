-- No two alarms go within 10,000 ms, no two charger words within 30,000 ms.
-- Assumes nothing.
use Prim.Native.Nat.{ℕ, ◌+◌, ◌≤◌}
use mathlib.Core.Bool.{Bool, true, false, cond}
use mathlib.Core.List.{List, [], ◌∷◌, ◌++◌}
use mathlib.Core.Path.{◌≡◌, ap, ◌∙◌}
use native.Mathlib.Omega.{arith}
use lib.Dec.{eqb}
use Rattle.broadcasts.specs.Broadcasts.{alarm_goes, charger_goes}
use Rattle.clock_laws.proofs.Timers.{alarms_timed, charger_words_timed}
use Rattle.clock_laws.specs.Steps.{Timed}
use Rattle.pack.specs.declared.Pack.{Pack}
use Rattle.pack.specs.declared.State.{State}
use Rattle.runs.proofs.Histories.{step_sound, took, carried}
use Rattle.runs.specs.Events.{Event, sample, step, run, Throughout, passes, time_of}
use Rattle.runs.specs.Promises.{ApartBy, AlarmsApart, ChargerWordsApart}
use Rattle.written.specs.Written.{bit_set, timers_written, pack_written}

-- time of a history and one event more
pub time_append : (s : State) (es : List Event) (e : Event) → time_of s (es ++ e ∷ []) ≡ time_of s es + passes (run s es) e
time_append s [] e = omega arith
time_append s (f ∷ es) e = omega (arith, time_append (step s f) es e)

-- nothing is asked of the events
nothing : (s : State) (es : List Event) → Throughout (λ t e. Unit {0}) s es
nothing s [] = tt
nothing s (e ∷ es) = (tt, nothing (step s e) es)

-- words that go by a timer which no write raises
module _ (goes : Pack → Bool) (mark : ℕ) (timer : Pack → ℕ) (by : Timed goes mark timer) (calm : (p : Pack) (command word : ℕ) → timer (pack_written p command word) ≤ timer p) where
  apart : ApartBy mark goes
  apart s x n es y m h a g b f =
      let t = step s (sample x n) in
      let zero : timer t.pack ≡ 0 = ap timer (took s x n a).pack ∙ by.restarts s.pack x g in
      let most : timer (run t es).pack ≤ timer t.pack + time_of t es =
      carried (λ p k q. timer q ≤ timer p + k) (λ u e. Unit {0}) (λ p. omega arith) (λ p q r i j c d. omega arith)
      (λ u e command word c w. omega (arith, calm u.pack command word)) (λ u z k c d. by.rises u.pack z) t es (step_sound s (sample x n) h) (nothing t es) in
      omega (arith, zero, most, by.marked (run t es).pack y f, time_append t es (sample y m), (took (run t es) y m b).time)

no_rise : (here b : Bool) (t : ℕ) → cond here (cond b 0 t) t ≤ t
no_rise true true t = omega arith
no_rise true false t = omega arith
no_rise false b t = omega arith

pub alarms_apart : AlarmsApart
unfolding pack_written timers_written
alarms_apart = apart alarm_goes 10000 (λ p. p.timers.alarm) alarms_timed (λ p command word. omega arith)

pub charger_words_apart : ChargerWordsApart
unfolding pack_written timers_written
charger_words_apart =
    apart charger_goes 30000 (λ p. p.timers.charger) charger_words_timed (λ p command word. no_rise (eqb command 0x03) (bit_set 14 word) p.timers.charger)
