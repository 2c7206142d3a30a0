-- `recent::average` meets its contract: the latest, or the kept totals summed and divided by their length.
-- Assumes nothing.
use Rattle.std.proofs.Common.{◌≡◌, ℕ, ◌*◌, ◌<◌, ◌≤◌, length, length-take-le, take, ℤ, pos, ap, ◌∙◌, subst, sym, le_refl, arith, to_z-of_z, w16, w32, SFits, to_z, of_z, eq-eqb, ne_eqb}
use Rattle.std.proofs.lemmas.Int.{ints, quot_is, quot_fits}
use lib.Signed.{quot_z, ◌<ℤ◌}
use Rattle.recent.specs.Recent.{sum_of, average_of}
use Rattle.recent.proofs.Bound.{kept_given, mean_fits}
use Rattle.recent.proofs.Soundness.{recent_facts}
use Rattle.recent.proofs.Totals.{can_longer, sum_cut}
use Rattle.recent.proofs.average.Goals as goal
use Rattle.recent.proofs.average.Goals.{After-product16-ms}

-- the quotient as the code makes it
divided : (z : ℤ) (m : ℕ) → SFits w32 z → 0 < m → m ≤ 60000
    → to_z w32 (of_z w32 (quot_z (to_z w32 (of_z w32 z)) (to_z w32 m))) ≡ quot_z z (pos m)
divided z m f p h =
    let few : SFits w32 (pos m) = record { sfits = omega arith } in
    let some : pos 0 <ℤ pos m = omega (arith, ints) in
    quot_is w32 z (pos m) f few (quot_fits w32 z (pos m) f some)

-- the mean of what is kept, of its sum as the code cuts it
mean : (c : goal.After-product16-ms)
    → to_z w32 (of_z w32 (quot_z (to_z w32 (of_z w32 c.summed-sum.result)) (to_z w32 c.product16-ms.result)))
    ≡ quot_z (sum_of c.args.r.totals c.args.r.count) (pos c.product16-ms.result)
mean c =
    let r = c.args.r in
    let m = c.product16-ms.result in
    let f = recent_facts r c.requires in
    let size : length (take r.count r.totals) ≡ r.count = length-take-le r.count r.totals (omega arith) in
    let e : c.summed-sum.result ≡ sum_of r.totals r.count =
    c.summed-sum.ensures ∙ ap (sum_of (take r.count r.totals)) size ∙ sum_cut r.totals r.count r.count (le_refl r.count) in
    divided c.summed-sum.result m (record { sfits = c.summed-sum.type_inv }) (omega (arith, c.product16-ms.ensures, c.if-r-eq0.false)) (omega (arith, c.product16-ms.ensures, f.most))
    ∙ ap (λ (z : ℤ). quot_z z (pos m)) e

-- it fits: divided by the length of what is kept, or by more
fits : (c : goal.After-product16-ms) → SFits w16 (quot_z (sum_of c.args.r.totals c.args.r.count) (pos c.product16-ms.result))
fits c =
    let r = c.args.r in
    let m = c.product16-ms.result in
    let s = sum_of r.totals r.count in
    mean_fits m s (can_longer (1000 * r.count) m s (omega (arith, c.product16-ms.ensures, (recent_facts r c.requires).most)) (kept_given r c.requires))

pub returns-then-r-eq0 : goal.returns-then-r-eq0
unfolding average_of
returns-then-r-eq0 c = rw (eq-eqb _ _ c.if-r-eq0.true)

pub shared_ref_as_front-summed : goal.shared_ref_as_front-summed
shared_ref_as_front-summed c = (recent_facts c.args.r c.requires).most

pub summed-sum-requires-clause-sound : goal.summed-sum-requires-clause-sound
summed-sum-requires-clause-sound c = (recent_facts c.args.r c.requires).totals

pub overflow_cast-mean : goal.overflow_cast-mean
overflow_cast-mean c = let p = (goal.at.overflow_cast-mean c).After-product16-ms in subst (SFits w16) (sym (mean p)) (fits p)

pub returns : goal.returns
unfolding average_of
returns c =
    let p = (goal.at.returns c).After-product16-ms in
    rw (ne_eqb _ _ c.if-r-eq0.false)
    (c.kept.ensures ∙ ap (λ (z : ℤ). of_z w16 (to_z w16 (of_z w16 z))) (mean p) ∙ ap (of_z w16) (to_z-of_z (fits p))
    ∙ ap (λ (m : ℕ). of_z w16 (quot_z (sum_of c.args.r.totals c.args.r.count) (pos m))) p.product16-ms.ensures)
