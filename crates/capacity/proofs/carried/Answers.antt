-- `capacity::carried` meets its contract: the sum fits 32 bits.
-- Assumes nothing.
use native.Mathlib.Omega.{arith}
use Rattle.capacity.proofs.Products.{product16_most}
use Rattle.capacity.proofs.carried.Goals as goal

pub overflow_add-result : goal.overflow_add-result
overflow_add-result c =
    let a = c.args in
    omega (arith, product16_most a.part a.factor (omega arith) (omega arith), c.product16.ensures)
