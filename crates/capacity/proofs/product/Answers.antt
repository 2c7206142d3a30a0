-- `capacity::product` meets its contract: the three parts' sum is the product.
-- Assumes nothing.
use Prim.Native.Nat.{ℕ, ◌+◌, ◌*◌, ◌/◌, ◌^◌}
use mathlib.Core.Path.{ap, ◌∙◌}
use native.Mathlib.Omega.{arith}
use Rattle.capacity.proofs.Products.{three_parts}
use Rattle.capacity.proofs.product.Goals as goal

pub returns : goal.returns
returns c =
    let a = c.args in
    rw (c.from.ensures, c.from-2.ensures)
    (three_parts a.amount a.factor c.carried-low.result c.carried-middle.result c.carried-high.result c.requires (omega arith)
    (c.carried-low.ensures ∙ ap (λ (n : ℕ). n * a.factor + 0) c.low16.ensures)
    (c.carried-middle.ensures ∙ ap (λ (n : ℕ). n * a.factor + c.carried-low.result / 2 ^ 16) c.low16-2.ensures)
    (c.carried-high.ensures ∙ ap (λ (n : ℕ). n * a.factor + c.carried-middle.result / 2 ^ 16) c.low16-3.ensures))
