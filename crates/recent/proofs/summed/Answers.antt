-- `recent::summed` meets its contract: one more total is added, and sound totals of a minute fit.
-- Assumes nothing.
use Rattle.std.proofs.Common.{◌≡◌, ℕ, ◌+◌, ◌*◌, ◌≤◌, true, List, length, get_or, ◌+ℤ◌, sym, refl, ap, ◌∙◌, take_all, le_refl, add-one, arith, w32, SFits, to_z}
use Rattle.std.proofs.lemmas.Int.{to_z-of_z}
use Rattle.recent.specs.Recent.{totals_sound, sum_of}
use Rattle.recent.proofs.Totals.{can_fits, sum_given}
use Rattle.recent.proofs.summed.Goals as goal

next : (l : List ℕ) (i : ℕ) → sum_of l i +ℤ to_z w32 (get_or l i 0) ≡ sum_of l (i + 1)
unfolding sum_of
next l i = sym (ap (sum_of l) (add-one i))

fits : (l : List ℕ) (n : ℕ) → n ≤ length l → length l ≤ 60 → totals_sound l ≡ true → SFits w32 (sum_of l n)
fits l n h k s =
    can_fits (1000 * n) (sum_of l n) (omega arith)
    (sum_given l n (length l) h (ap totals_sound (take_all (length l) l (le_refl (length l))) ∙ s))

pub overflow_add-sum : goal.overflow_add-sum
overflow_add-sum c =
    let k = c.loop-total in
    let f : SFits w32 (sum_of c.args.totals.now (k.total-index + 1)) = fits _ _ (omega arith) c.requires.few c.requires.sound in
    let e : sum_of c.args.totals.now k.total-index +ℤ to_z w32 (get_or c.args.totals.now k.total-index 0) ≡ sum_of c.args.totals.now (k.total-index + 1) = next _ _ in
    grind (arith, to_z-of_z)

pub loop-total-init : goal.loop-total-init
unfolding sum_of
loop-total-init c = refl

pub loop-total-preserved : goal.loop-total-preserved
loop-total-preserved c =
    let k = c.loop-total in
    let f : SFits w32 (sum_of c.args.totals.now (k.total-index + 1)) = fits _ _ (omega arith) c.requires.few c.requires.sound in
    let e : sum_of c.args.totals.now k.total-index +ℤ to_z w32 (get_or c.args.totals.now k.total-index 0) ≡ sum_of c.args.totals.now (k.total-index + 1) = next _ _ in
    grind (arith, to_z-of_z)
