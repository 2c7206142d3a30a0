-- Reads and refused calls can be struck out of a history; what is written is read back after any number of them.
-- Assumes nothing.
use Prim.Native.Nat.{ℕ, ◌+◌}
use mathlib.Core.Bool.{Bool, true, cond}
use mathlib.Core.List.{List, [], ◌∷◌, ◌++◌}
use mathlib.Core.Path.{◌≡◌, refl, ap, ap₂}
use native.Mathlib.Omega.{arith}
use lib.Dec.{eqb}
use Rattle.bus_laws.proofs.ReadBack.{written_read}
use Rattle.bus_laws.proofs.Served.{past_two}
use Rattle.chatter.proofs.Chatter.{over_is_same}
use Rattle.chatter.proofs.Chatter as chatter
use Rattle.chatter.specs.Promises.{AddsSame}
use Rattle.clock.specs.Sample.{elapsed_of}
use Rattle.pack.specs.Sound.{sound_of}
use Rattle.pack.specs.declared.Pack.{Pack}
use Rattle.pack.specs.declared.Sample.{Sample}
use Rattle.pack.specs.declared.State.{State}
use Rattle.runs.proofs.Alike.{pack_step}
use Rattle.runs.proofs.Histories.{step_sound, run-sound, idle_keep, idle_none}
use Rattle.runs.proofs.Measures.{set_up_sound}
use Rattle.runs.specs.Events.{Event, sample, call, step, run, sent, accepted, taken, passes, adds_sent, adds_taken, adds_time, adds_elapsed}
use Rattle.runs.specs.Promises.{ChatterIsIdle, ChatterIsIdleFrom, NextIsSame, ReadBack}
use Rattle.runs.specs.Since.{from_set_up}
use Rattle.runs.specs.Struck.{SameBut, Same, pack_party}

-- in states that are the same but for the error code an event is accepted, adds to the samples and takes time in both
alike : (s t : State) (e : Event) → SameBut s t → (accepted s e ≡ accepted t e) × (taken s e ≡ taken t e) × (passes s e ≡ passes t e)
alike s t (sample x n) h =
    let a = (pack_step.gives s t (sample x n) h).answer in (
      ap (λ (a : ℕ). eqb a 0) a,
      ap (λ (a : ℕ). cond (eqb a 0) (x ∷ []) []) a,
      ap₂ (λ (a : ℕ) (p : Pack). cond (eqb a 0) (elapsed_of x.counter p.latest.counter) 0) a h.pack,
    )
alike s t (call c) h = (refl, refl, refl)

-- ---- what comes of a history

sent_same : AddsSame pack_party adds_sent
sent_same =
    record {
      nothing = λ s e later i. ap (λ (b : Bool). cond b (sent s e ∷ []) [] ++ later) (idle_none s e i).0;
      same = λ s t e later h.
          ap₂ (λ (b : Bool) (bytes : List ℕ). cond b (bytes ∷ []) [] ++ later) (alike s t e h).0 (pack_step.gives s t e h).broadcast;
    }

taken_same : AddsSame pack_party adds_taken
taken_same =
    record {
      nothing = λ s e later i. ap (λ (xs : List Sample). xs ++ later) (idle_none s e i).1;
      same = λ s t e later h. ap (λ (xs : List Sample). xs ++ later) (alike s t e h).1;
    }

elapsed_same : AddsSame pack_party adds_elapsed
elapsed_same =
    record {
      nothing = λ s e later i. ap (λ (b : Bool). cond b (passes s e ∷ []) [] ++ later) (idle_none s e i).0;
      same = λ s t e later h. ap₂ (λ (b : Bool) (time : ℕ). cond b (time ∷ []) [] ++ later) (alike s t e h).0 (alike s t e h).2;
    }

time_same : AddsSame pack_party adds_time
time_same =
    record {
      nothing = λ s e later i. omega (arith, (idle_none s e i).2);
      same = λ s t e later h. ap (λ (time : ℕ). time + later) (alike s t e h).2;
    }

pub chatter_is_idle_from : ChatterIsIdleFrom
chatter_is_idle_from s t es fs r h =
    record {
      unmoved = chatter.chatter_is_idle pack_party pack_step s t es fs r h;
      broadcast = over_is_same pack_party adds_sent [] pack_step sent_same s t es fs r h;
      samples = over_is_same pack_party adds_taken [] pack_step taken_same s t es fs r h;
      elapsed = over_is_same pack_party adds_elapsed [] pack_step elapsed_same s t es fs r h;
      time = over_is_same pack_party adds_time 0 pack_step time_same s t es fs r h;
    }

-- from one sound state
same_state : (s : State) → sound_of s ≡ true → SameBut s s
same_state s h = record { pack = refl; sound_first = h; sound_second = h }

pub chatter_is_idle : ChatterIsIdle
chatter_is_idle u first es fs a r =
    let s = from_set_up u first in
    chatter_is_idle_from s s es fs r (same_state s (set_up_sound u first a))

pub next_is_same : NextIsSame
next_is_same s es fs h r e = pack_step.gives (run s es) (run s fs) e (chatter_is_idle_from s s es fs r (same_state s h)).unmoved.state

-- ---- what is written is read back

pub read_back : ReadBack
read_back s (sample x n) es r command word w i reads room = absurd w
read_back s (call c) es r command word (w, v) i reads room =
    let t = step s (call c) in
    written_read s c (run t es) r command word w v (run-sound t es (step_sound s (call c) (past_two s c v).0)) (idle_keep t es i) reads room
