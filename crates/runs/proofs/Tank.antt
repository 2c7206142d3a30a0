-- What an event does to the tank, and to what BatteryStatus says of it.
-- Assumes nothing.
use Prim.Native.Nat.{ℕ}
use mathlib.Core.Bool.{true, false, not}
use mathlib.Core.List.{List, [], ◌∷◌, ◌++◌}
use mathlib.Core.Path.{◌≡◌, refl, ap, ◌∙◌}
use Rattle.alarms.specs.Alarms.{charge_full, terminate_discharge, discharging}
use Rattle.clock.specs.Broadcast.{sampled_of}
use Rattle.clock.specs.Sample.{moved_of}
use Rattle.clock_laws.specs.Steps.{gap}
use Rattle.learning.specs.declared.Seen.{Seen}
use Rattle.pack.specs.Kept.{latest_of}
use Rattle.pack.specs.declared.Pack.{Pack}
use Rattle.pack.specs.declared.Sample.{Sample}
use Rattle.pack.specs.declared.State.{State}
use Rattle.runs.proofs.Histories.{took, still_of, still_keeps}
use Rattle.runs.specs.Events.{Event, sample, step, run, accepted}
use Rattle.tank.proofs.Steps.{full_after}
use Rattle.tank.specs.Tank.{seen_of, tank_after}
use Rattle.written.specs.Written.{pack_written}

-- ---- any event but an accepted sample

written_tank : (p : Pack) (command word : ℕ) → (pack_written p command word).tank ≡ p.tank
unfolding pack_written
written_tank p command word = refl

written_settings : (p : Pack) (command word : ℕ) → (pack_written p command word).settings ≡ p.settings
unfolding pack_written
written_settings p command word = refl

pub tank_stays : (s : State) (e : Event) → accepted s e ≡ false → (step s e).pack.tank ≡ s.pack.tank
tank_stays s e a = still_keeps (λ p. p.tank) written_tank s e (still_of s e a)

pub settings_stay : (s : State) (e : Event) → accepted s e ≡ false → (step s e).pack.settings ≡ s.pack.settings
settings_stay s e a = still_keeps (λ p. p.settings) written_settings s e (still_of s e a)

-- ---- an accepted sample

-- what the run sees of it
abbrev pub seen_at : State → Sample → Seen
seen_at s x = seen_of s.pack.settings s.pack.tank (latest_of x) (gap s.pack x)

module _ (p : Pack) (x : Sample) where
  sampled-tank : (sampled_of p x).tank ≡ tank_after p.settings p.tank (latest_of x) (gap p x)
  unfolding sampled_of moved_of
  sampled-tank = refl

  sampled-settings : (sampled_of p x).settings ≡ p.settings
  unfolding sampled_of moved_of
  sampled-settings = refl

  sampled-full : charge_full (sampled_of p x) ≡ (seen_of p.settings p.tank (latest_of x) (gap p x)).filled
  unfolding sampled_of moved_of
  sampled-full = full_after p.settings p.tank (latest_of x) (gap p x)

  sampled-rises : discharging (sampled_of p x) ≡ not (seen_of p.settings p.tank (latest_of x) (gap p x)).rises
  unfolding sampled_of moved_of seen_of
  sampled-rises = refl

  sampled-ends : terminate_discharge (sampled_of p x) ≡ (seen_of p.settings p.tank (latest_of x) (gap p x)).ends
  unfolding sampled_of moved_of seen_of
  sampled-ends = refl

module _ (s : State) (x : Sample) (n : ℕ) (a : accepted s (sample x n) ≡ true) where
  pub tank-sampled : (step s (sample x n)).pack.tank ≡ tank_after s.pack.settings s.pack.tank (latest_of x) (gap s.pack x)
  tank-sampled = ap (λ (p : Pack). p.tank) (took s x n a).pack ∙ sampled-tank s.pack x

  pub settings-sampled : (step s (sample x n)).pack.settings ≡ s.pack.settings
  settings-sampled = ap (λ (p : Pack). p.settings) (took s x n a).pack ∙ sampled-settings s.pack x

  pub full_is : charge_full (step s (sample x n)).pack ≡ (seen_at s x).filled
  full_is = ap charge_full (took s x n a).pack ∙ sampled-full s.pack x

  pub rises-is : discharging (step s (sample x n)).pack ≡ not (seen_at s x).rises
  rises-is = ap discharging (took s x n a).pack ∙ sampled-rises s.pack x

  pub ends_is : terminate_discharge (step s (sample x n)).pack ≡ (seen_at s x).ends
  ends_is = ap terminate_discharge (took s x n a).pack ∙ sampled-ends s.pack x

-- ---- a history and more

pub run_append : (s : State) (es fs : List Event) → run s (es ++ fs) ≡ run (run s es) fs
run_append s [] fs = refl
run_append s (e ∷ es) fs = run_append (step s e) es fs
