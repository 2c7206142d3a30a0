-- Request R-11 in a grower's words: two apps that poll one pack disturb no alarm, no charge, no count, and not each other.
-- Assumes nothing.
use Rattle.std.specs.Prelude.{◌%◌, Bool, true, cond, List, [], ◌∷◌, ◌++◌, ◌≡◌}
use Rattle.bus_laws.specs.Calls.{SameRegisters}
use Rattle.chatter.specs.Struck.{Struck, strike}
use Rattle.gauge.specs.Word.{word_of}
use Rattle.pack.specs.declared.Sample.{Sample}
use Rattle.pack.specs.declared.State.{State}
use Rattle.runs.specs.Events.{Event, sample, call, step, run, is_idle, broadcasts, elapsed_each}
use Rattle.runs.specs.Since.{from_set_up}
use Rattle.runs.specs.Struck.{pack_party, Undisturbed}
use Rattle.start.specs.SetUp.{set_up_of}
use Rattle.start.specs.declared.Setup.{Setup}

-- a history as it is with no app polling: every read is left out
abbrev pub unpolled : List Event → List Event
unpolled [] = []
unpolled (sample x n ∷ es) = sample x n ∷ unpolled es
unpolled (call c ∷ es) = cond c.read [] (call c ∷ []) ++ unpolled es

-- the same with and without polling: every alarm and charger word, at samples as far apart; charge and the learned full capacity;
-- the cycle count, what is drawn toward the next and in the run; the minute's average; hold and timers; every register but the low four bits of BatteryStatus
pub record PollingIsIdle (s : State) (es : List Event) : Type 0 where
  pub alarms : broadcasts s es ≡ broadcasts s (unpolled es)
  pub elapsed : elapsed_each s es ≡ elapsed_each s (unpolled es)
  pub charge : (run s es).pack.tank.charge ≡ (run s (unpolled es)).pack.tank.charge
  pub full : (run s es).pack.tank.full ≡ (run s (unpolled es)).pack.tank.full
  pub cycles : (run s es).pack.tank.CycleCount ≡ (run s (unpolled es)).pack.tank.CycleCount
  pub toward : (run s es).pack.tank.toward ≡ (run s (unpolled es)).pack.tank.toward
  pub drawn : (run s es).pack.tank.run ≡ (run s (unpolled es)).pack.tank.run
  pub minute : (run s es).pack.recent ≡ (run s (unpolled es)).pack.recent
  pub timers : (run s es).pack.timers ≡ (run s (unpolled es)).pack.timers
  pub registers : SameRegisters (run s (unpolled es)) (run s es)

-- so over any history since a served set-up (RULES 16.5)
abbrev pub PollingDisturbsNothing : Type 0
PollingDisturbsNothing = (u : Setup) (first : Sample) (es : List Event) → (set_up_of u first).answer ≡ 0 → PollingIsIdle (from_set_up u first) es

-- which calls are the second app's is any choice: struck out, they leave all that the first one sees as it was (RULES 16.5)
abbrev pub AppsDontMeet : Type 0
AppsDontMeet =
    (u : Setup) (first : Sample) (es : List Event) (second : List Bool) → (set_up_of u first).answer ≡ 0
    → (r : Struck pack_party (from_set_up u first) es (strike pack_party second (from_set_up u first) es))
    × Undisturbed (from_set_up u first) (from_set_up u first) es (strike pack_party second (from_set_up u first) es) r

-- the exception is needed: from every served set-up some idle call changes what the low four bits of BatteryStatus show
abbrev pub CodeIsShared : Type 0
CodeIsShared =
    (u : Setup) (first : Sample) → (set_up_of u first).answer ≡ 0
    → (e : Event) × (is_idle (from_set_up u first) e ≡ true)
    × (word_of (from_set_up u first) 0x16 % 16 ≡ 0) × (word_of (step (from_set_up u first) e) 0x16 % 16 ≡ 6)
