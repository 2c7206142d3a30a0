-- Since set-up: the recent minute keeps the totals of the last 60 complete seconds, and register 0B is their average.
-- Assumes nothing.
use Prim.Native.Nat.{ℕ}
use mathlib.Core.List.{List, [], ◌∷◌, ◌++◌, append_assoc, append-nil}
use mathlib.Core.Path.{◌≡◌, refl, sym, ap, ◌∙◌}
use lib.IntN.{ℤ}
use lib.ListN.{replicate}
use mir.Facts.{to_z-of_z}
use mir.Syntax.{w16}
use mir.Val.{SFits, to_z, of_z}
use Rattle.clock.specs.Sample.{elapsed_of}
use Rattle.gauge.specs.Word.{given_of}
use Rattle.pack.specs.Kept.{latest_of}
use Rattle.pack.specs.declared.Latest.{Latest}
use Rattle.pack.specs.declared.Pack.{Pack}
use Rattle.pack.specs.declared.Sample.{Sample}
use Rattle.pack.specs.declared.Settings.{Settings}
use Rattle.recent.specs.Recent.{average_of}
use Rattle.seconds.specs.Seconds.{recent_after}
use Rattle.recent.specs.declared.Recent.{Recent}
use Rattle.recent_laws.proofs.Average.{kept_average, average_fits}
use Rattle.recent_laws.proofs.Currents.{currents_rep, currents_append}
use Rattle.recent_laws.proofs.Kept.{none_at_first, one_more}
use Rattle.recent_laws.specs.Kept.{recent_of}
use Rattle.recent_laws.specs.Promises.{Currents}
use Rattle.runs.proofs.Measures.{measures_of_accepted, set_up_sound, set_up_pack}
use Rattle.runs.specs.Events.{accepted_of, run}
use Rattle.runs.specs.Promises.{MinuteSinceSetUp, AverageSinceSetUp}
use Rattle.runs.specs.Since.{from_set_up, Measures, measures_of, measures_after, milliseconds, latest_current, Signed16}
use Rattle.start.specs.SetUp.{pack_of}
use Rattle.tank.specs.Tank.{tank_after}

-- ---- the currents of all milliseconds are those of the samples

pub of_samples : (counter : ℕ) (xs : List Sample) → Signed16 xs → Currents (milliseconds counter xs)
of_samples counter [] f = tt
of_samples counter (x ∷ xs) f =
    let time = elapsed_of x.counter counter in
    currents_append (replicate time x.current) (milliseconds x.counter xs) (currents_rep time x.current f.0) (of_samples x.counter xs f.1)

-- ---- the minute

-- what one sample makes of what a pack measures
abbrev measured : Settings → Measures → Sample → Measures
measured s m x =
    let time = elapsed_of x.counter m.latest.counter in
    record { latest = latest_of x; recent = recent_after m.recent (latest_of x).current time; tank = tank_after s m.tank (latest_of x) time }

pub minute_after : (s : Settings) (m : Measures) (xs : List Sample) (l : List ℤ) → Currents l → Signed16 xs → m.recent ≡ recent_of l
    → (measures_after s m xs).recent ≡ recent_of (l ++ milliseconds m.latest.counter xs)
minute_after s m [] l h f e = e ∙ ap recent_of (sym (append-nil l))
minute_after s m (x ∷ xs) l h f e =
    let time = elapsed_of x.counter m.latest.counter in
    let new = replicate time x.current in
    minute_after s (measured s m x) xs (l ++ new) (currents_append l new h (currents_rep time x.current f.0)) f.1
    (ap (λ (r : Recent). recent_after r (latest_of x).current time) e ∙ one_more l x.current time h f.0)
    ∙ ap recent_of (append_assoc l new (milliseconds x.counter xs))

pub minute_since_set_up : MinuteSinceSetUp
unfolding pack_of
minute_since_set_up u first es a f =
    let s = from_set_up u first in
    ap (λ (m : Measures). m.recent) (measures_of_accepted s es (set_up_sound u first a))
    ∙ minute_after s.pack.settings (measures_of s.pack) (accepted_of s es) [] tt f (ap (λ (p : Pack). p.recent) (set_up_pack u first a) ∙ none_at_first)
    ∙ ap (λ (p : Pack). recent_of (milliseconds p.latest.counter (accepted_of s es))) (set_up_pack u first a)

-- ---- register 0B

pub latest_after : (s : Settings) (m : Measures) (y : Sample) (xs : List Sample) → m.latest ≡ latest_of y
    → (measures_after s m xs).latest.current ≡ of_z w16 (latest_current y xs)
latest_after s m y [] e = ap (λ (l : Latest). l.current) e
latest_after s m y (x ∷ xs) e = latest_after s (measured s m x) x xs refl

pub latest_fits : (y : Sample) (xs : List Sample) → Signed16 (y ∷ xs) → SFits w16 (latest_current y xs)
latest_fits y [] f = f.0
latest_fits y (x ∷ xs) f = latest_fits x xs f.1

pub average_since_set_up : AverageSinceSetUp
unfolding given_of pack_of
average_since_set_up u first es a f =
    let s = from_set_up u first in
    let xs = accepted_of s es in
    let latest : (run s es).pack.latest.current ≡ of_z w16 (latest_current first xs) =
    ap (λ (m : Measures). m.latest.current) (measures_of_accepted s es (set_up_sound u first a))
    ∙ latest_after s.pack.settings (measures_of s.pack) first xs (ap (λ (p : Pack). p.latest) (set_up_pack u first a)) in
    let l = milliseconds first.counter xs in
    let all = of_samples first.counter xs f.1 in
    ap (to_z w16)
    (ap (λ (r : Recent). average_of r (run s es).pack.latest.current) (minute_since_set_up u first es a f.1)
    ∙ ap (average_of (recent_of l)) latest
    ∙ kept_average l (latest_current first xs) all)
    ∙ to_z-of_z (average_fits l (latest_current first xs) all (latest_fits first xs f))
