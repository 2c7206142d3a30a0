-- A history event by event: accepted samples, served writes, and what leaves the pack as it was.
-- Assumes nothing.
use Rattle.std.specs.Prelude.{ℕ, true, List, [], ◌∷◌, ◌⊎◌, ◌≡◌}
use Rattle.clock.specs.Broadcast.{sampled_of}
use Rattle.clock.specs.Sample.{elapsed_of}
use Rattle.pack.specs.declared.Pack.{Pack}
use Rattle.pack.specs.declared.Sample.{Sample}
use Rattle.pack.specs.declared.State.{State}
use Rattle.runs.specs.Events.{Event, sample, step, accepted, taken, passes, ServedWrite}
use Rattle.written.specs.Written.{pack_written}

-- an accepted sample: one more is taken, its time passes, and the pack is as sampled
pub record Took (s : State) (x : Sample) (n : ℕ) : Type 0 where
  pub is_accepted : accepted s (sample x n) ≡ true
  pub one : taken s (sample x n) ≡ x ∷ []
  pub time : passes s (sample x n) ≡ elapsed_of x.counter s.pack.latest.counter
  pub pack : (step s (sample x n)).pack ≡ sampled_of s.pack x

-- the pack as it was, or as a served write leaves it
abbrev pub Left : State → Event → Pack → Type 0
Left s e q = (q ≡ s.pack) ⊎ ((command word : ℕ) × ServedWrite s e command word × (q ≡ pack_written s.pack command word))

-- any other event: none is taken, no time passes, and the pack is left so
pub record Still (s : State) (e : Event) : Type 0 where
  pub none : taken s e ≡ []
  pub time : passes s e ≡ 0
  pub pack : Left s e (step s e).pack

-- a history is a string of both
pub data History : State → List Event → Type 0 where
  done : {s : State} → History s []
  still-then : {s : State} {e : Event} {es : List Event} → Still s e → History (step s e) es → History s (e ∷ es)
  took-then : {s : State} {x : Sample} {n : ℕ} {es : List Event} → Took s x n → History (step s (sample x n)) es → History s (sample x n ∷ es)
