use Rattle.std.proofs.Common.{◌≡◌, ◌+◌, ◌-◌, arith}
use native.Mathlib.Nat.{sub-zero, add-zero}
use Rattle.numbers.proofs.Stores.{read_turn}
use Rattle.numbers.proofs.number_of_width.Goals as goal

pub loop-i-init : goal.loop-i-init
loop-i-init c = let none : c.args.n - c.args.n ≡ 0 = omega arith in record { is = rw none; small = rw none (omega arith) }

pub loop-i-preserved : goal.loop-i-preserved
loop-i-preserved c =
    let l = c.loop-i in
    let a = c.args in
    let byte = c.type_inv.part (a.at + (l.i - 1)) in
    let t = read_turn a.part.now a.at a.n l.i (omega arith) (omega arith) (omega arith) (omega (arith, byte)) l.invariant.is l.invariant.small in
    rw c.from.ensures (record { is = t.0; small = t.1 })

pub returns : goal.returns
returns c =
    let l = c.loop-i in
    let first : l.i ≡ 0 = omega arith in
    (rw (first, sub-zero, add-zero) at l.invariant.is, rw (first, sub-zero) at l.invariant.small)
