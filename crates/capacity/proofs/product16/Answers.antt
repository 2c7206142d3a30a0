-- `capacity::product16` meets its contract: a product of two 16-bit factors fits 32 bits.
-- Assumes nothing.
use native.Mathlib.Omega.{arith}
use Rattle.capacity.proofs.Products.{product16_most}
use Rattle.capacity.proofs.product16.Goals as goal

pub overflow_mul-result : goal.overflow_mul-result
overflow_mul-result c = record { fits = omega (arith, product16_most c.args.a c.args.b (omega arith) (omega arith)) }
