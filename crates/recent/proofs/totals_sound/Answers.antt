-- `recent::totals_sound` meets its contract.
-- Assumes nothing.
use Rattle.std.proofs.Common.{◌&&◌, take, refl, ap, ◌∙◌, rules}
use Rattle.recent.specs.Recent.{totals_sound}
use Rattle.recent.proofs.Totals.{totals_next}
use Rattle.recent.proofs.totals_sound.Goals as goal

pub loop-total-init : goal.loop-total-init
unfolding totals_sound
loop-total-init c = refl

pub loop-total-preserved : goal.loop-total-preserved
loop-total-preserved c =
    let l = c.args.totals.now in
    let i = c.loop-total.total-index in
    ap (λ x. x && c.total_sound-all.result) c.loop-total.invariant
    ∙ ap (λ x. totals_sound (take i l) && x) c.total_sound-all.ensures
    ∙ totals_next l i (search rules)
