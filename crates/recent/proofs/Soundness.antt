-- What the test of the recent minute says, fact by fact, and back; set-up's passes it.
-- Assumes nothing.
use Rattle.std.proofs.Common.{◌≡◌, true, refl, ltb-true, lt-ltb, le-leb, leb-true}
use mathlib.Core.Bool.{and-eq-true_iff}
use Rattle.recent.specs.Recent.{recent_sound, RecentFacts, zero_recent, totals_sound}
use Rattle.recent.specs.declared.Recent.{Recent}

pub recent_facts : (r : Recent) → recent_sound r ≡ true → RecentFacts r
unfolding recent_sound
recent_facts r h =
    let a = (and-eq-true_iff _ _).0 h in
    let b = (and-eq-true_iff _ _).0 a.0 in
    let c = (and-eq-true_iff _ _).0 b.0 in
    record { most = leb-true _ _ c.0; begun = ltb-true _ _ c.1; totals = b.1; total = a.1 }

pub recent-sound : (r : Recent) → RecentFacts r → recent_sound r ≡ true
unfolding recent_sound
recent-sound r f = rw (le-leb _ _ f.most, lt-ltb _ _ f.begun, f.totals, f.total)

-- none complete, none begun
pub zero_sound : recent_sound zero_recent ≡ true
unfolding recent_sound totals_sound
zero_sound = refl
