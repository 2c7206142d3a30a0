-- What one sample does to the timers and the modes.
-- Assumes nothing.
use Prim.Native.Nat.{ℕ, ◌+◌, ◌-◌, ◌≤◌, min}
use mathlib.Core.Bool.{Bool, true, false, cond, not, ◌&&◌, and-eq-true_iff}
use mathlib.Core.Path.{◌≡◌, refl, ap, ◌∙◌}
use native.Mathlib.Omega.{arith}
use borrow.Author.Tests.{leb-true}
use lib.Dec.{leb, eqb}
use Rattle.broadcasts.specs.Broadcasts.{alarm_goes, charger_goes}
use Rattle.clock.specs.Broadcast.{sampled_of}
use Rattle.clock.specs.Sample.{moved_of}
use Rattle.clock_laws.specs.Promises.{SilentInAlarmMode, SilentInChargerMode}
use Rattle.clock_laws.specs.Steps.{gap, Timed}
use Rattle.alarms.specs.Alarms.{any_alarm}
use Rattle.pack.specs.declared.Pack.{Pack}
use Rattle.pack.specs.declared.Sample.{Sample}

module _ (p : Pack) (x : Sample) where
  -- at the moment of sending
  pub moved-alarm : (moved_of p x).timers.alarm ≡ min 10000 (p.timers.alarm + gap p x)
  unfolding moved_of
  moved-alarm = refl

  pub moved-charger : (moved_of p x).timers.charger ≡ cond p.host.ChargerMode 0 (min 30000 (p.timers.charger + gap p x))
  unfolding moved_of
  moved-charger = refl

  pub moved-alarm-mode : (moved_of p x).host.AlarmMode ≡ p.host.AlarmMode && not (eqb (p.timers.hold - gap p x) 0)
  unfolding moved_of
  moved-alarm-mode = refl

  pub moved-charger-mode : (moved_of p x).host.ChargerMode ≡ p.host.ChargerMode
  unfolding moved_of
  moved-charger-mode = refl

  -- and after it
  pub sampled-hold : (sampled_of p x).timers.hold ≡ p.timers.hold - gap p x
  unfolding sampled_of moved_of
  sampled-hold = refl

  pub sampled-charger-mode : (sampled_of p x).host.ChargerMode ≡ p.host.ChargerMode
  unfolding sampled_of moved_of
  sampled-charger-mode = refl

  sampled-alarm : (sampled_of p x).timers.alarm ≡ cond (alarm_goes (moved_of p x)) 0 (moved_of p x).timers.alarm
  unfolding sampled_of
  sampled-alarm = refl

  pub sampled-charger : (sampled_of p x).timers.charger ≡ cond (charger_goes (moved_of p x)) 0 (moved_of p x).timers.charger
  unfolding sampled_of
  sampled-charger = refl

  -- where no alarm goes its timer counts on
  pub counts-on : alarm_goes (moved_of p x) ≡ false → (sampled_of p x).timers.alarm ≡ min 10000 (p.timers.alarm + gap p x)
  counts-on n = sampled-alarm ∙ ap (λ (b : Bool). cond b 0 (moved_of p x).timers.alarm) n ∙ moved-alarm

-- with a bit set and ALARM_MODE clear the timer alone decides
pub timer_decides : (q : Pack) → any_alarm q ≡ true → q.host.AlarmMode ≡ false → alarm_goes q ≡ leb 10000 q.timers.alarm
unfolding alarm_goes
timer_decides q a m = simp (a, m)

-- ---- the two timers

-- a restart never raises a timer
pub no_more : (b : Bool) (n : ℕ) → cond b 0 n ≤ n
no_more true n = omega arith
no_more false n = omega arith

alarm_mark : (q : Pack) → alarm_goes q ≡ true → 10000 ≤ q.timers.alarm
unfolding alarm_goes
alarm_mark q h = leb-true 10000 q.timers.alarm ((and-eq-true_iff (any_alarm q && not q.host.AlarmMode) _).0 h).1

charger_mark : (q : Pack) → charger_goes q ≡ true → 30000 ≤ q.timers.charger
unfolding charger_goes
charger_mark q h = leb-true 30000 q.timers.charger ((and-eq-true_iff (not q.host.ChargerMode) _).0 h).1

pub alarms_timed : Timed alarm_goes 10000 (λ p. p.timers.alarm)
alarms_timed =
    record {
      rises = λ p x. omega (arith, sampled-alarm p x, moved-alarm p x, no_more (alarm_goes (moved_of p x)) (moved_of p x).timers.alarm);
      marked = λ p x g. omega (arith, alarm_mark (moved_of p x) g, moved-alarm p x);
      restarts = λ p x g. sampled-alarm p x ∙ ap (λ (b : Bool). cond b 0 (moved_of p x).timers.alarm) g;
    }

charger_rises : (p : Pack) (x : Sample) → (moved_of p x).timers.charger ≤ p.timers.charger + gap p x
charger_rises p x = omega (arith, moved-charger p x, no_more p.host.ChargerMode (min 30000 (p.timers.charger + gap p x)))

pub charger_words_timed : Timed charger_goes 30000 (λ p. p.timers.charger)
charger_words_timed =
    record {
      rises = λ p x. omega (arith, sampled-charger p x, charger_rises p x, no_more (charger_goes (moved_of p x)) (moved_of p x).timers.charger);
      marked = λ p x g. omega (arith, charger_mark (moved_of p x) g, charger_rises p x);
      restarts = λ p x g. sampled-charger p x ∙ ap (λ (b : Bool). cond b 0 (moved_of p x).timers.charger) g;
    }

-- ---- the two silences

middle : (a b : Bool) → a && false && b ≡ false
middle true b = refl
middle false b = refl

pub alarm_silent : SilentInAlarmMode
unfolding alarm_goes
alarm_silent q m = simp (m, middle)

pub charger_silent : SilentInChargerMode
unfolding charger_goes
charger_silent q m = simp m
