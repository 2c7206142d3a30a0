-- Charge over histories: current × elapsed added, held between 0 and full, from set-up or a close on.
-- Assumes nothing.
use Prim.Native.Nat.{ℕ}
use mathlib.Core.Bool.{true, false}
use mathlib.Core.List.{List, ◌∷◌, ◌++◌}
use mathlib.Core.Path.{◌≡◌, refl, sym, ap, ◌∙◌, subst}
use lib.IntN.{ℤ, pos}
use Rattle.clock_laws.proofs.Charge.{charge_true}
use Rattle.clock_laws.specs.Steps.{gap}
use Rattle.gauge_laws.proofs.Hundred.{relative_most}
use Rattle.gauge_laws.proofs.Words.{remaining_word_most}
use Rattle.pack.proofs.Soundness.{tank_of_sound}
use Rattle.pack.specs.Kept.{latest_of}
use Rattle.pack.specs.Sound.{sound_of}
use Rattle.pack.specs.declared.Pack.{Pack}
use Rattle.pack.specs.declared.Sample.{Sample}
use Rattle.pack.specs.declared.State.{State}
use Rattle.pack.specs.declared.Tank.{Tank}
use Rattle.runs.proofs.Histories.{seen_through, still_keeps, step_sound, run-sound, took}
use Rattle.runs.proofs.Measures.{sampled_measures, written_measures, set_up_sound, set_up_pack}
use Rattle.runs.proofs.Tank.{tank-sampled}
use Rattle.runs.specs.Closes.{closed_by, ClosesNone}
use Rattle.runs.specs.Events.{Event, sample, step, run, Throughout, accepted, accepted_of}
use Rattle.runs.specs.Histories.{History, done, still-then, took-then}
use Rattle.runs.specs.Promises.{ChargeFrom, ChargeSinceSetUp, ChargeSinceClose, ChargeAtMostFull}
use Rattle.runs.specs.Since.{from_set_up, Measures, measures_of, Signed16, charge_over}
use Rattle.start.specs.SetUp.{pack_of}
use Rattle.tank.proofs.Steps.{at-close, no-close}

-- the counter after an accepted sample is its own
pub counter_of : (s : State) (x : Sample) (n : ℕ) → accepted s (sample x n) ≡ true → (step s (sample x n)).pack.latest.counter ≡ x.counter
counter_of s x n a = ap (λ (m : Measures). m.latest.counter) (ap measures_of (took s x n a).pack ∙ sampled_measures s.pack x)

-- what further samples make of what a pack holds
abbrev onward : List Sample → Measures → ℤ
onward xs m = charge_over m.tank.full (pos m.tank.charge) m.latest.counter xs

-- a sample that closes no run is the first of them
moved : (s : State) (x : Sample) (n : ℕ) (xs : List Sample) → sound_of s ≡ true → accepted s (sample x n) ≡ true → closed_by s x ≡ false → Signed16 (x ∷ xs)
    → onward xs (measures_of (step s (sample x n)).pack) ≡ onward (x ∷ xs) (measures_of s.pack)
moved s x n xs h a c (f, fs) =
    let p = s.pack in
    let e = gap p x in
    let t = tank-sampled s x n a in
    let k = no-close p.settings p.tank (latest_of x) e c in
    let full : (step s (sample x n)).pack.tank.full ≡ p.tank.full = ap (λ (u : Tank). u.full) t ∙ k.0 in
    let charge = ap (λ (u : Tank). pos u.charge) t ∙ ap pos k.1 ∙ charge_true p.tank.charge p.tank.full e x f (tank_of_sound s h).charge in
    rw (full, charge, counter_of s x n a)

over : (s : State) (es : List Event) → sound_of s ≡ true → History s es → Throughout ClosesNone s es → Signed16 (accepted_of s es)
    → pos (run s es).pack.tank.charge ≡ onward (accepted_of s es) (measures_of s.pack)
over s es h done t f = refl
over s es h (still-then {e = e} {es = later} w r) (c, more) f =
    let rest = accepted_of (step s e) later in
    let same : accepted_of s (e ∷ later) ≡ rest = ap (λ (xs : List Sample). xs ++ rest) w.none in
    over (step s e) later (step_sound s e h) r more (subst Signed16 same f)
    ∙ ap (onward rest) (still_keeps measures_of written_measures s e w)
    ∙ ap (λ (xs : List Sample). onward xs (measures_of s.pack)) (sym same)
over s es h (took-then {x = x} {n = n} {es = later} k r) (c, more) f =
    let rest = accepted_of (step s (sample x n)) later in
    let same : accepted_of s (sample x n ∷ later) ≡ x ∷ rest = ap (λ (xs : List Sample). xs ++ rest) k.one in
    let g = subst Signed16 same f in
    over (step s (sample x n)) later (step_sound s (sample x n) h) r more g.1
    ∙ moved s x n rest h k.is_accepted (c k.is_accepted) g
    ∙ ap (λ (xs : List Sample). onward xs (measures_of s.pack)) (sym same)

pub charge_from : ChargeFrom
charge_from s es h t f = over s es h (seen_through s es h) t f

pub charge_since_set_up : ChargeSinceSetUp
unfolding pack_of
charge_since_set_up u first es a t f =
    let s = from_set_up u first in
    charge_from s es (set_up_sound u first a) t f
    ∙ ap (λ (p : Pack). charge_over p.tank.full (pos p.tank.charge) p.latest.counter (accepted_of s es)) (set_up_pack u first a)

pub charge_since_close : ChargeSinceClose
charge_since_close s x n es h a c t f =
    let p = s.pack in
    let k = at-close p.settings p.tank (latest_of x) (gap p x) c in
    let charge : (step s (sample x n)).pack.tank.charge ≡ 0 = ap (λ (u : Tank). u.charge) (tank-sampled s x n a) ∙ k.1 in
    charge_from (step s (sample x n)) es (step_sound s (sample x n) h) t f
    ∙ rw (charge, counter_of s x n a)

pub charge_at_most_full : ChargeAtMostFull
charge_at_most_full s es h = let g = run-sound s es h in ((tank_of_sound (run s es) g).charge, remaining_word_most (run s es) g, relative_most (run s es) g)
