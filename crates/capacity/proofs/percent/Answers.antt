-- `capacity::percent` meets its contract: 100 times the charge, by the capacity in mA·ms.
-- Assumes nothing.
use Prim.Native.Nat.{◌/◌}
use mathlib.Core.Path.{ap₂, ◌∙◌}
use native.Mathlib.Nat.{mul_comm}
use Rattle.capacity.proofs.percent.Goals as goal

pub returns : goal.returns
returns c =
    let a = c.args in
    ap₂ ◌/◌ (c.product.ensures ∙ mul_comm a.charge 100) c.milliamp_ms.ensures.is
