-- `snatchblock::snatchblock_bit_comparison` meets its contract.
-- Assumes nothing.
use native.Mathlib.Omega.{arith}
use Rattle.snatchblock.proofs.Bounds.{asked, comparison_most}
use Rattle.snatchblock.proofs.snatchblock_bit_comparison.Goals as goal

pub compared-requires : goal.compared-requires
compared-requires c = let a = c.args in asked c.bit_comparison.ensures (comparison_most a.a.now a.b.now (λ i. (c.type_inv.a i).fits) (λ i. (c.type_inv.b i).fits)) (λ _ h. omega (arith, h))
