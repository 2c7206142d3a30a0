-- Request R-4 over histories: charge drawn, cycles, runs and their close. What is drawn stands in integers.
-- Assumes nothing.
use Rattle.std.specs.Prelude.{ℕ, ◌+◌, ◌*◌, ◌/◌, min, max, Bool, true, false, cond, ◌&&◌, List, [], ◌∷◌, ◌++◌, ◌≡◌, pos, nat_abs}
use Rattle.std.specs.Int.Signed.{lt_z}
use Rattle.alarms.specs.Alarms.{charge_full, terminate_discharge, discharging}
use Rattle.clock.specs.Sample.{elapsed_of}
use Rattle.pack.specs.Kept.{latest_of}
use Rattle.pack.specs.declared.Sample.{Sample}
use Rattle.pack.specs.declared.State.{State}
use Rattle.pack.specs.declared.Tank.{Tank}
use Rattle.runs.specs.Events.{Event, sample, call, step, run, Throughout, accepted}
use Rattle.tank.specs.Tank.{closed}

-- ---- charge drawn

-- what an event draws: an accepted sample with current below 0, its magnitude times elapsed (RULES 7.9)
abbrev pub draws : State → Event → ℕ
draws s (sample x n) =
    cond (accepted s (sample x n) && lt_z x.current (pos 0)) (nat_abs x.current * elapsed_of x.counter s.pack.latest.counter) 0
draws s (call c) = 0

-- all charge drawn over a history
abbrev pub drawn_over : State → List Event → ℕ
drawn_over s [] = 0
drawn_over s (e ∷ es) = draws s e + drawn_over (step s e) es

-- ---- closes

-- a sample closes the run (RULES 7.12)
abbrev pub closed_by : State → Sample → Bool
closed_by s x = closed s.pack.settings s.pack.tank (latest_of x) (elapsed_of x.counter s.pack.latest.counter)

-- an event closes no run
abbrev pub ClosesNone : State → Event → Type 0
ClosesNone s (sample x n) = accepted s (sample x n) ≡ true → closed_by s x ≡ false
ClosesNone s (call c) = Unit {0}

-- an event leaves an open run open below full: no accepted sample, or one that leaves FULLY_CHARGED clear, DISCHARGING set (current not above 0) and TERMINATE_DISCHARGE clear
abbrev pub Quiet : State → Event → Type 0
Quiet s (sample x n) =
    accepted s (sample x n) ≡ true
    → (charge_full (step s (sample x n)).pack ≡ false) × (discharging (step s (sample x n)).pack ≡ true)
    × (terminate_discharge (step s (sample x n)).pack ≡ false)
Quiet s (call c) = Unit {0}

-- an event doesn't leave the pack full
abbrev pub NotFilled : State → Event → Type 0
NotFilled s e = accepted s e ≡ true → charge_full (step s e).pack ≡ false

-- the pack is full after the events before, set-up's at the earliest, and every event since is quiet
pub record SinceFull (s : State) (es : List Event) : Type 0 where
  pub before : List Event
  pub since : List Event
  pub splits : es ≡ before ++ since
  pub full : charge_full (run s before).pack ≡ true
  pub quiet : Throughout Quiet (run s before) since

-- an accepted sample after them that doesn't leave the pack full, with TERMINATE_DISCHARGE set
pub record Closing (s : State) (es : List Event) (x : Sample) (n : ℕ) : Type 0 where
  pub after : SinceFull s es
  pub is_accepted : accepted (run s es) (sample x n) ≡ true
  pub not_full : charge_full (step (run s es) (sample x n)).pack ≡ false
  pub ends : terminate_discharge (step (run s es) (sample x n)).pack ≡ true

-- what a close leaves: full is the whole mAh drawn, at least 1 and at most 65,535; charge is 0, bit 4 set, no run open (RULES 7.13)
pub record AfterClose (drawn : ℕ) (t : Tank) : Type 0 where
  pub full : t.full ≡ max 1 (min 65535 (drawn / 3600000))
  pub charge : t.charge ≡ 0
  pub FullyDischarged : t.FullyDischarged ≡ true
  pub over : t.run.opened ≡ false
  pub count : t.run.drawn ≡ 0
