-- Since set-up: what accepted samples make of the latest sample, the recent minute and the tank.
-- Assumes nothing.
use Rattle.std.specs.Prelude.{ℕ, ◌-◌, ◌%◌, ◌^◌, ◌≤◌, ◌<◌, List, [], ◌∷◌, ◌++◌, ◌≡◌, ℤ, pos, ◌+ℤ◌, ◌*ℤ◌, replicate}
use Rattle.std.specs.Int.{w16}
use Rattle.std.proofs.Common.{SFits}
use Rattle.clock.specs.Sample.{elapsed_of}
use Rattle.clock_laws.specs.Steps.{held_to}
use Rattle.pack.specs.Kept.{latest_of}
use Rattle.start.specs.SetUp.{set_up_of}
use Rattle.pack.specs.declared.Latest.{Latest}
use Rattle.pack.specs.declared.Pack.{Pack}
use Rattle.pack.specs.declared.Sample.{Sample}
use Rattle.pack.specs.declared.Settings.{Settings}
use Rattle.start.specs.declared.Setup.{Setup}
use Rattle.pack.specs.declared.State.{State}
use Rattle.pack.specs.declared.Tank.{Tank}
use Rattle.tank.specs.Tank.{tank_after}
use Rattle.capacity.specs.Capacity.{milliamp_ms}
use Rattle.seconds.specs.Seconds.{recent_after}
use Rattle.recent.specs.declared.Recent.{Recent}

-- the state that set-up gives
abbrev pub from_set_up : Setup → Sample → State
from_set_up u first = (set_up_of u first).state

-- what a pack measures
pub record Measures : Type 0 where
  pub latest : Latest
  pub recent : Recent
  pub tank : Tank

-- taken from its parts
abbrev pub measures_of : Pack → Measures
measures_of p = record { latest = p.latest; recent = p.recent; tank = p.tank }

-- what samples one after another make of that, by what set-up fixed, the oldest first
abbrev pub measures_after : Settings → Measures → List Sample → Measures
measures_after s m [] = m
measures_after s m (x ∷ xs) =
    measures_after s
    (record {
      latest = latest_of x;
      recent = recent_after m.recent (latest_of x).current (elapsed_of x.counter m.latest.counter);
      tank = tank_after s m.tank (latest_of x) (elapsed_of x.counter m.latest.counter);
    })
    xs

-- the current of each millisecond since a reading, the oldest first: each sample's current for the milliseconds since the sample before (RULES 6.10)
abbrev pub milliseconds : ℕ → List Sample → List ℤ
milliseconds counter [] = []
milliseconds counter (x ∷ xs) = replicate (elapsed_of x.counter counter) x.current ++ milliseconds x.counter xs

-- the latest current: the last sample's, or the first one's if none came after it (RULES 6.9)
abbrev pub latest_current : Sample → List Sample → ℤ
latest_current first [] = first.current
latest_current first (x ∷ xs) = latest_current x xs

-- every current is a signed 16-bit number, as the call's type has it
abbrev pub Signed16 : List Sample → Type 0
Signed16 [] = Unit {0}
Signed16 (x ∷ xs) = SFits w16 x.current × Signed16 xs

-- the charge after samples: each adds current × elapsed, held between 0 and full
abbrev pub charge_over : ℕ → ℤ → ℕ → List Sample → ℤ
charge_over full charge counter [] = charge
charge_over full charge counter (x ∷ xs) =
    charge_over full (held_to (pos (milliamp_ms full)) (charge +ℤ x.current *ℤ pos (elapsed_of x.counter counter))) x.counter xs

-- samples from one true time to another, each less than 2^32 ms after what came before, read off a 32-bit counter
abbrev pub Counted : ℕ → List Sample → ℕ → Type 0
Counted start [] stop = start ≡ stop
Counted start (x ∷ xs) stop = (time : ℕ) × (start ≤ time) × (time - start < 2 ^ 32) × (x.counter ≡ time % 2 ^ 32) × Counted time xs stop
