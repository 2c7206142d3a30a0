use Rattle.std.proofs.Common.{◌≡◌, ◌-◌, refl, ◌∙◌, arith}
use lib.ListN.{length-set}
use native.Mathlib.Nat.{add-zero, sub-zero}
use Rattle.numbers.proofs.Stores.{byte_turn}
use Rattle.numbers.proofs.put_number.Goals as goal

pub loop-i-init : goal.loop-i-init
loop-i-init c = record { all = rw (add-zero, sub-zero); long = refl }

pub loop-i-preserved : goal.loop-i-preserved
loop-i-preserved c =
    let l = c.loop-i in
    let a = c.args in
    record { all = byte_turn l.part a.at a.n l.i l.left (omega arith) ∙ l.invariant.all; long = simp length-set l.invariant.long }

pub shape_of-part : goal.shape_of-part
shape_of-part c = c.loop-i.invariant.long

pub returns : goal.returns
returns c =
    let l = c.loop-i in
    let none : c.args.n - l.i ≡ 0 = omega arith in
    rw none at l.invariant.all
