-- Request R-4: the theorems on cycles and on the learned full capacity, over histories: whatever is written, read or refused between the samples.
-- Assumes nothing.
use Rattle.std.specs.Prelude.{ℕ, ◌+◌, ◌/◌, ◌%◌, ◌≤◌, ◌<◌, min, true, false, List, [], ◌∷◌, ◌++◌, ◌↔◌, ◌⊎◌, ◌≡◌}
use Rattle.alarms.specs.Alarms.{discharging, any_alarm}
use Rattle.capacity.specs.Capacity.{milliamp_ms}
use Rattle.clock.specs.Sample.{moved_of}
use Rattle.gauge.specs.Word.{word_of}
use Rattle.gauge_laws.specs.Promises.{bit_of}
use Rattle.pack.specs.Sound.{sound_of}
use Rattle.pack.specs.declared.Sample.{Sample}
use Rattle.pack.specs.declared.State.{State}
use Rattle.pack.specs.declared.Tank.{Tank}
use Rattle.runs.specs.Closes.{drawn_over, closed_by, NotFilled, SinceFull, Closing, AfterClose}
use Rattle.runs.specs.Events.{Event, sample, step, run, Throughout, accepted, accepted_of}
use Rattle.runs.specs.Since.{from_set_up, Signed16}
use Rattle.start.specs.SetUp.{set_up_of}
use Rattle.start.specs.declared.Setup.{Setup}
use Rattle.status.specs.Status.{alarm_word}

-- ---- cycles

-- the cycle number grows by the design capacities drawn and stops at 65,535, and what is kept toward the next is the remainder
pub record Cycled (design : ℕ) (before : Tank) (drawn : ℕ) (after : Tank) : Type 0 where
  pub cycles : before.CycleCount ≤ 65535 → after.CycleCount ≡ min 65535 (before.CycleCount + (before.toward + drawn) / milliamp_ms design)
  pub toward : after.toward ≡ (before.toward + drawn) % milliamp_ms design

-- so over any history from any sound state
abbrev pub CyclesFrom : Type 0
CyclesFrom =
    (s : State) (es : List Event) → sound_of s ≡ true → Signed16 (accepted_of s es)
    → Cycled s.pack.settings.DesignCapacity s.pack.tank (drawn_over s es) (run s es).pack.tank

-- register 17 is the smaller of 65,535 and set-up's number plus floor(all charge drawn since set-up ÷ design capacity)
abbrev pub CyclesSinceSetUp : Type 0
CyclesSinceSetUp =
    (u : Setup) (first : Sample) (es : List Event) → (set_up_of u first).answer ≡ 0 → u.CycleCount < 65536 → Signed16 (accepted_of (from_set_up u first) es)
    → word_of (run (from_set_up u first) es) 0x17 ≡ min 65535 (u.CycleCount + drawn_over (from_set_up u first) es / milliamp_ms u.DesignCapacity)

-- and what is kept toward the next is the remainder
abbrev pub TowardSinceSetUp : Type 0
TowardSinceSetUp =
    (u : Setup) (first : Sample) (es : List Event) → (set_up_of u first).answer ≡ 0 → Signed16 (accepted_of (from_set_up u first) es)
    → (run (from_set_up u first) es).pack.tank.toward ≡ drawn_over (from_set_up u first) es % milliamp_ms u.DesignCapacity

-- ---- runs

-- a run is open exactly where the pack was full once and all since is quiet
abbrev pub RunOpen : Type 0
RunOpen =
    (u : Setup) (first : Sample) (es : List Event) → (set_up_of u first).answer ≡ 0
    → ((run (from_set_up u first) es).pack.tank.run.opened ≡ true) ↔ SinceFull (from_set_up u first) es

-- its count is the charge drawn since, held at 65,535 mAh
abbrev pub RunDrawn : Type 0
RunDrawn =
    (u : Setup) (first : Sample) (es : List Event) → (set_up_of u first).answer ≡ 0 → (k : SinceFull (from_set_up u first) es)
    → Signed16 (accepted_of (run (from_set_up u first) k.before) k.since)
    → (run (from_set_up u first) es).pack.tank.run.drawn ≡ min (milliamp_ms 65535) (drawn_over (run (from_set_up u first) k.before) k.since)

-- an accepted sample closes it exactly where it has TERMINATE_DISCHARGE set and doesn't leave the pack full
abbrev pub ClosesExactly : Type 0
ClosesExactly =
    (u : Setup) (first : Sample) (es : List Event) (x : Sample) (n : ℕ) → (set_up_of u first).answer ≡ 0
    → accepted (run (from_set_up u first) es) (sample x n) ≡ true
    → (closed_by (run (from_set_up u first) es) x ≡ true) ↔ Closing (from_set_up u first) es x n

-- at the close full becomes the whole mAh drawn by the samples after the last one at full, this one's too; charge is 0 and bit 4 set at that very sample
abbrev pub CloseLearns : Type 0
CloseLearns =
    (u : Setup) (first : Sample) (es : List Event) (x : Sample) (n : ℕ) → (set_up_of u first).answer ≡ 0 → (k : Closing (from_set_up u first) es x n)
    → Signed16 (accepted_of (run (from_set_up u first) k.after.before) (k.after.since ++ sample x n ∷ []))
    → AfterClose (drawn_over (run (from_set_up u first) k.after.before) (k.after.since ++ sample x n ∷ [])) (step (run (from_set_up u first) es) (sample x n)).pack.tank

-- and at no other event does it change
abbrev pub OnlyCloseLearns : Type 0
OnlyCloseLearns =
    (u : Setup) (first : Sample) (es : List Event) (e : Event) → (set_up_of u first).answer ≡ 0
    → ((x : Sample) × (n : ℕ) × (e ≡ sample x n) × Closing (from_set_up u first) es x n)
    ⊎ ((step (run (from_set_up u first) es) e).pack.tank.full ≡ (run (from_set_up u first) es).pack.tank.full)

-- its broadcasts show it: the alarms' word has bits 4 and 11 set, and an alarm bit is set
abbrev pub CloseIsShown : Type 0
CloseIsShown =
    (s : State) (x : Sample) → closed_by s x ≡ true
    → (bit_of 4 (alarm_word (moved_of s.pack x)) ≡ 1) × (bit_of 11 (alarm_word (moved_of s.pack x)) ≡ 1) × (any_alarm (moved_of s.pack x) ≡ true)

-- a run that saw current above 0 below full changes nothing: from any state, full stays till a sample leaves the pack full
abbrev pub EndedUnused : Type 0
EndedUnused =
    (s : State) (x : Sample) (n : ℕ) (es : List Event) → accepted s (sample x n) ≡ true
    → discharging (step s (sample x n)).pack ≡ false → Throughout NotFilled s (sample x n ∷ es)
    → (run s (sample x n ∷ es)).pack.tank.full ≡ s.pack.tank.full
