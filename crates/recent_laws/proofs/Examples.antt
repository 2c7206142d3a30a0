-- The worked histories, by the state: its steps compute where the milliseconds are too many.
-- Assumes nothing.
use Prim.Native.Nat.{ℕ, ◌<◌}
use mathlib.Core.List.{List, [], ◌∷◌, ◌++◌, append_assoc, append-nil}
use mathlib.Core.Path.{◌≡◌, ap, ◌∙◌, sym}
use native.Mathlib.Omega.{arith}
use lib.IntN.{ℤ, pos, negsuc}
use lib.ListN.{replicate}
use mir.Facts.{to_z-of_z}
use mir.Syntax.{w16}
use mir.Val.{SFits, to_z, of_z}
use Rattle.recent.specs.declared.Recent.{Recent}
use Rattle.recent.specs.Recent.{zero_recent, sum_of, average_of}
use Rattle.seconds.specs.Seconds.{recent_after}
use Rattle.recent_laws.specs.Examples.{Flow, flowed, out_then_in, TwoSeconds, a_moment, NoSecond, many_days, LastMinute}
use Rattle.recent_laws.specs.Kept.{recent_of}
use Rattle.recent_laws.specs.Minute.{average_of_all}
use Rattle.recent_laws.specs.Promises.{Currents}
use Rattle.recent_laws.proofs.Average.{kept_average, average_fits}
use Rattle.recent_laws.proofs.Currents.{currents_rep, currents_append}
use Rattle.recent_laws.proofs.Kept.{none_at_first, one_more}

-- each is a sample
unfoldable after : Recent → List Flow → Recent
after r [] = r
after r (f ∷ fs) = after (recent_after r (of_z w16 f.current) f.ms) fs

abbrev Fit : List Flow → Type 0
Fit [] = Unit {0}
Fit (f ∷ fs) = SFits w16 f.current × Fit fs

after_is : (l : List ℤ) (fs : List Flow) → Currents l → Fit fs → after (recent_of l) fs ≡ recent_of (l ++ flowed fs)
unfolding after flowed
after_is l [] h k = ap recent_of (sym (append-nil l))
after_is l (f ∷ fs) h (s, k) =
    let x = replicate f.ms f.current in
    ap (λ r. after r fs) (one_more l f.current f.ms h s)
    ∙ after_is (l ++ x) fs (currents_append l x h (currents_rep f.ms f.current s)) k
    ∙ ap recent_of (append_assoc l x (flowed fs))

flowed_currents : (fs : List Flow) → Fit fs → Currents (flowed fs)
unfolding flowed
flowed_currents [] k = tt
flowed_currents (f ∷ fs) (s, k) =
    currents_append (replicate f.ms f.current) (flowed fs) (currents_rep f.ms f.current s) (flowed_currents fs k)

by_state : (fs : List Flow) (latest : ℤ) → Fit fs → SFits w16 latest
    → average_of_all (flowed fs) latest ≡ to_z w16 (average_of (after zero_recent fs) (of_z w16 latest))
by_state fs latest k s =
    let l = flowed fs in
    let h = flowed_currents fs k in
    sym (to_z-of_z (average_fits l latest h s))
    ∙ ap (to_z w16) (sym (kept_average l latest h)
    ∙ ap (λ r. average_of r (of_z w16 latest)) (sym (ap (λ r. after r fs) none_at_first ∙ after_is [] fs tt k)))

-- a current of the examples
small : (n : ℕ) → n < 32768 → SFits w16 (pos n)
small n h = record { sfits = omega arith }

minus_five : SFits w16 (negsuc 4)
minus_five = record { sfits = omega arith }

pub two_seconds : TwoSeconds
unfolding after recent_after average_of sum_of
two_seconds = by_state out_then_in (pos 2) (minus_five, (small 2 (omega arith), tt)) (small 2 (omega arith))

pub no_second : NoSecond
unfolding after recent_after average_of sum_of
no_second = by_state a_moment (pos 7) (minus_five, (small 7 (omega arith), tt)) (small 7 (omega arith))

pub last_minute : LastMinute
unfolding after recent_after average_of sum_of
last_minute =
    let nine = small 9 (omega arith) in
    let forty = small 40 (omega arith) in
    by_state many_days (pos 40) (small 100 (omega arith), (nine, (nine, (nine, (nine, (forty, tt)))))) forty
