-- Time, latest sample, recent minute and tank depend on the accepted samples only.
-- Assumes nothing.
use Prim.Native.Nat.{ℕ, ◌+◌, ◌-◌, ◌%◌, ◌^◌, ◌≤◌}
use mathlib.Core.Bool.{Bool, true, false, cond}
use mathlib.Core.List.{List, [], ◌∷◌, ◌++◌}
use mathlib.Core.Path.{◌≡◌, refl, sym, ap, ap₂, ◌∙◌, subst}
use native.Mathlib.Omega.{arith}
use lib.Dec.{eqb}
use Rattle.clock.specs.Broadcast.{sampled_of}
use Rattle.clock.specs.Sample.{elapsed_of, moved_of}
use Rattle.clock_laws.proofs.Elapsed.{elapsed_true}
use Rattle.start.proofs.Start.{sound_when_served}
use Rattle.start.specs.SetUp.{set_up_of, set_up_refused, pack_of, zero_state}
use Rattle.pack.specs.Sound.{sound_of}
use Rattle.pack.specs.declared.Pack.{Pack}
use Rattle.pack.specs.declared.Sample.{Sample}
use Rattle.start.specs.declared.Setup.{Setup}
use Rattle.pack.specs.declared.Answered.{Answered}
use Rattle.pack.specs.declared.State.{State}
use Rattle.runs.proofs.Histories.{seen_through, still_keeps}
use Rattle.runs.specs.Events.{Event, sample, step, run, accepted_of, time_of}
use Rattle.runs.specs.Histories.{History, done, still-then, took-then}
use Rattle.runs.specs.Promises.{TimeTrue, MeasuresOfAccepted}
use Rattle.runs.specs.Since.{from_set_up, Measures, measures_of, measures_after, Counted}
use Rattle.written.specs.Written.{pack_written}

-- ---- what is measured

pub written_measures : (p : Pack) (command word : ℕ) → measures_of (pack_written p command word) ≡ measures_of p
unfolding pack_written
written_measures p command word = refl

pub sampled_measures : (p : Pack) (x : Sample) → measures_of (sampled_of p x) ≡ measures_after p.settings (measures_of p) (x ∷ [])
unfolding sampled_of moved_of
sampled_measures p x = refl

-- what further samples make of a pack: a write changes nothing of it, and a sample is the first of them
abbrev further : List Sample → Pack → Measures
further xs p = measures_after p.settings (measures_of p) xs

written_further : (xs : List Sample) (p : Pack) (command word : ℕ) → further xs (pack_written p command word) ≡ further xs p
unfolding pack_written
written_further xs p command word = refl

sampled_further : (xs : List Sample) (p : Pack) (x : Sample) → further xs (sampled_of p x) ≡ further (x ∷ xs) p
unfolding sampled_of moved_of
sampled_further xs p x = refl

measures : (s : State) (es : List Event) → History s es → measures_of (run s es).pack ≡ further (accepted_of s es) s.pack
measures s es done = refl
measures s es (still-then {e = e} {es = later} w r) =
    let rest = accepted_of (step s e) later in
    measures (step s e) later r
    ∙ still_keeps (further rest) (written_further rest) s e w
    ∙ ap (λ (xs : List Sample). further (xs ++ rest) s.pack) (sym w.none)
measures s es (took-then {x = x} {n = n} {es = later} k r) =
    let rest = accepted_of (step s (sample x n)) later in
    measures (step s (sample x n)) later r
    ∙ ap (further rest) k.pack
    ∙ sampled_further rest s.pack x
    ∙ ap (λ (xs : List Sample). further (xs ++ rest) s.pack) (sym k.one)

pub measures_of_accepted : MeasuresOfAccepted
measures_of_accepted s es h = measures s es (seen_through s es h)

-- ---- time

over : (s : State) (es : List Event) (start stop : ℕ) → History s es → s.pack.latest.counter ≡ start % 2 ^ 32 → Counted start (accepted_of s es) stop
    → (start ≤ stop) × (time_of s es ≡ stop - start)
over s es start stop done h c = (omega (arith, c), omega (arith, c))
over s es start stop (still-then {e = e} {es = later} w r) h c =
    let counter : (step s e).pack.latest.counter ≡ s.pack.latest.counter =
    ap (λ (m : Measures). m.latest.counter) (still_keeps measures_of written_measures s e w) in
    let rest = over (step s e) later start stop r (counter ∙ h) (subst (λ (xs : List Sample). Counted start (xs ++ accepted_of (step s e) later) stop) w.none c) in
    (rest.0, omega (arith, w.time, rest.1))
over s es start stop (took-then {x = x} {n = n} {es = later} k r) h c =
    let (time, l, d, at, after) =
    subst (λ (xs : List Sample). Counted start (xs ++ accepted_of (step s (sample x n)) later) stop) k.one c in
    let counter : (step s (sample x n)).pack.latest.counter ≡ x.counter =
    ap (λ (m : Measures). m.latest.counter) (ap measures_of k.pack ∙ sampled_measures s.pack x) in
    let rest = over (step s (sample x n)) later time stop r (counter ∙ at) after in
    let first : elapsed_of x.counter s.pack.latest.counter ≡ time - start = ap₂ elapsed_of at h ∙ elapsed_true start time l d in
    (omega (arith, l, rest.0), omega (arith, k.time, first, l, rest.0, rest.1))

pub time_true : TimeTrue
time_true s es start stop h c n = (over s es start stop (seen_through s es h) c n).1

-- ---- since set-up

pub set_up_sound : (u : Setup) (first : Sample) → (set_up_of u first).answer ≡ 0 → sound_of (from_set_up u first) ≡ true
set_up_sound u first a = sound_when_served u first ∙ ap (λ (n : ℕ). eqb n 0) a

-- a served set-up's pack
pub set_up_pack : (u : Setup) (first : Sample) → (set_up_of u first).answer ≡ 0 → (from_set_up u first).pack ≡ pack_of u first
unfolding set_up_of
set_up_pack u first = go (set_up_refused u)
  where
    started : Bool → Answered State
    started b = cond b (record { answer = 11; state = zero_state }) (record { answer = 0; state = record { error = 0; pack = pack_of u first } })

    go : (b : Bool) → (started b).answer ≡ 0 → (started b).state.pack ≡ pack_of u first
    go true a = absurd (omega (arith, a))
    go false a = refl
