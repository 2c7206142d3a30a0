-- `thirteen_calls::set_up` meets its contract.
-- Assumes nothing.
use borrow.Author.Tests.{ne_eqb}
use mathlib.Core.Path.{refl, ap}
use native.Mathlib.Omega.{arith}
use Rattle.thirteen_calls.proofs.Areas.{start_most, start_done}
use Rattle.pack.specs.declared.Answered.{Answered}
use Rattle.thirteen_pack.specs.declared.ThirteenState.{ThirteenState}
use Rattle.thirteen_calls.proofs.set_up.Goals as goal

pub returns-then-area-ne-LENGTH : goal.returns-then-area-ne-LENGTH
returns-then-area-ne-LENGTH c = let other = ne_eqb _ _ c.if-area-ne-LENGTH.true in record { value = rw other; area_after = rw other }

pub keep-requires : goal.keep-requires
keep-requires c =
    let a = c.args in
    let count = ap (λ (t : Answered ThirteenState). t.state.pack.recent.count) c.set_up-started.ensures in
    (c.if-area-ne-LENGTH.false, λ z. omega (arith, count, start_most a.u a.health a.first a.cells))

pub returns : goal.returns
returns c =
    record { value = (start_done c.args.area.now c.if-area-ne-LENGTH.false c.set_up-started.ensures refl c.keep.ensures).0; area_after = (start_done c.args.area.now c.if-area-ne-LENGTH.false c.set_up-started.ensures refl c.keep.ensures).1 }
