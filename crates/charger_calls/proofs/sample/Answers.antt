-- `charger_calls::sample` meets its contract.
-- Assumes nothing.
use mathlib.Core.Path.{refl}
use Rattle.charger_area.proofs.Whole.{area_size}
use Rattle.charger_calls.proofs.Areas.{an_area, sample-none, sample-done}
use Rattle.charger_calls.proofs.sample.Goals as goal

pub returns-then-held-ne0 : goal.returns-then-held-ne0
returns-then-held-ne0 c =
    let a = c.args in
    let it = sample-none a.area.now a.sample c.load-held.ensures.is c.if-held-ne0.true in
    record { value = it.0; area_after = it.1 }

pub keep-requires : goal.keep-requires
keep-requires c = let a = c.args in area_size a.area.now (an_area a.area.now c.load-held.ensures.is c.if-held-ne0.false).0

pub returns : goal.returns
returns c =
    let a = c.args in
    let it = sample-done a.area.now a.sample c.load-held.ensures.is c.if-held-ne0.false c.sample-out.ensures refl c.keep.ensures in
    record { value = it.0; area_after = it.1 }
