-- `pec::bits_apart` meets its contract.
-- Assumes nothing.
use native.Mathlib.Omega.{arith}
use Rattle.pec.proofs.Loops.{apart_next, apart_end, apart_le}
use Rattle.pec.proofs.bits_apart.Goals as goal

pub overflow_add-sum : goal.overflow_add-sum
overflow_add-sum c =
    let most = apart_le _ _ (c.type_inv.a c.loop-i.i).fits (c.type_inv.b c.loop-i.i).fits in
    omega (arith, most)

pub loop-i-preserved : goal.loop-i-preserved
loop-i-preserved c =
    let next = apart_next c.args.a.now c.args.b.now c.loop-i.i (omega arith) (omega arith) in
    let most = apart_le _ _ (c.type_inv.a c.loop-i.i).fits (c.type_inv.b c.loop-i.i).fits in
    (omega (arith, next), omega (arith, most))

pub returns : goal.returns
returns c = omega (arith, apart_end c.args.a.now c.args.b.now c.loop-i.i (omega arith))
