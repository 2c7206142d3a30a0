-- Document 01, Clock and broadcasts: true time is a premise. After a winter, or where the counter began anew, samples lie further apart than it can tell,
-- and the next one adds its current over a wrong time. One sample whose current is 0 ends that: it adds nothing, and time is counted from its reading on.
-- Assumes nothing.
use Rattle.std.specs.Prelude.{ℕ, ◌-◌, ◌%◌, ◌^◌, ◌≤◌, true, false, List, ◌∷◌, ◌≡◌, pos}
use Rattle.alarms.specs.Alarms.{charge_full}
use Rattle.broadcasts.specs.Broadcasts.{least_room}
use Rattle.pack.specs.Sound.{sound_of}
use Rattle.pack.specs.declared.Sample.{Sample}
use Rattle.pack.specs.declared.State.{State}
use Rattle.runs.specs.Closes.{ClosesNone}
use Rattle.runs.specs.Events.{Event, sample, step, run, Throughout, answer_to, accepted_of, time_of}
use Rattle.runs.specs.Since.{Signed16, charge_over, Counted}

-- a sample whose current is 0 changes no charge, whatever its counter says: in any state, in any room, accepted or not (RULES 7.8)
abbrev pub NoCurrentNoCharge : Type 0
NoCurrentNoCharge =
    (s : State) (x : Sample) (n : ℕ) → x.current ≡ pos 0 → (step s (sample x n)).pack.tank.charge ≡ s.pack.tank.charge

-- a rest: a sound state, a sample whose current is 0, whatever its counter says, and room enough (RULES 7.8)
pub record Rest (s : State) (x : Sample) (n : ℕ) : Type 0 where
  pub sound : sound_of s ≡ true
  pub no_current : x.current ≡ pos 0
  pub room : least_room s.pack.settings.plain ≤ n

-- it is accepted, what the tank holds stays, below full the run too, its reading is the latest, and the state is sound
pub record Rested (s : State) (x : Sample) (n : ℕ) : Type 0 where
  pub answer : answer_to s (sample x n) ≡ 0
  pub charge : (step s (sample x n)).pack.tank.charge ≡ s.pack.tank.charge
  pub full : (step s (sample x n)).pack.tank.full ≡ s.pack.tank.full
  pub cycles : s.pack.tank.CycleCount ≤ 65535 → (step s (sample x n)).pack.tank.CycleCount ≡ s.pack.tank.CycleCount
  pub toward : (step s (sample x n)).pack.tank.toward ≡ s.pack.tank.toward
  pub run : charge_full s.pack ≡ false → (step s (sample x n)).pack.tank.run ≡ s.pack.tank.run
  pub counter : (step s (sample x n)).pack.latest.counter ≡ x.counter
  pub sound : sound_of (step s (sample x n)) ≡ true

-- every rest is such a one (RULES 7.8)
abbrev pub RestKeepsCharge : Type 0
RestKeepsCharge = (s : State) (x : Sample) (n : ℕ) → Rest s x n → Rested s x n

-- after any history since a rest in which no run closes, charge is that before it and, over the accepted samples since, current × elapsed: no reading before the rest counts (RULES 7.8)
abbrev pub ChargeAfterRest : Type 0
ChargeAfterRest =
    (s : State) (x : Sample) (n : ℕ) (es : List Event) → Rest s x n → Throughout ClosesNone (step s (sample x n)) es
    → Signed16 (accepted_of (step s (sample x n)) es)
    → pos (run s (sample x n ∷ es)).pack.tank.charge
    ≡ charge_over s.pack.tank.full (pos s.pack.tank.charge) x.counter (accepted_of (step s (sample x n)) es)

-- and time is true again, if the accepted samples since come less than 2^32 ms apart (RULES 7.8)
abbrev pub TimeAfterRest : Type 0
TimeAfterRest =
    (s : State) (x : Sample) (n : ℕ) (es : List Event) (start stop : ℕ) → Rest s x n → x.counter ≡ start % 2 ^ 32
    → Counted start (accepted_of (step s (sample x n)) es) stop → time_of (step s (sample x n)) es ≡ stop - start
