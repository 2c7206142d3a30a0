-- `thirteen_calls::sample` meets its contract.
-- Assumes nothing.
use mathlib.Core.Path.{refl, sym, ap, ◌∙◌}
use native.Mathlib.Omega.{arith}
use Rattle.thirteen_area.proofs.Whole.{area_size}
use Rattle.thirteen_calls.proofs.Areas.{an_area, sample_count, sample-none, sample-done}
use Rattle.pack.specs.declared.Answered.{Answered}
use Rattle.thirteen_pack.specs.declared.ThirteenState.{ThirteenState}
use Rattle.thirteen_calls.proofs.sample.Goals as goal

pub returns-then-held-ne0 : goal.returns-then-held-ne0
returns-then-held-ne0 c =
    let a = c.args in
    let it = sample-none a.area.now a.x a.cells c.load-held.ensures.is c.if-held-ne0.true in
    record { value = it.0; area_after = it.1 }

pub keep-requires : goal.keep-requires
keep-requires c =
    let a = c.args in
    let held = c.load-held in
    let out = c.sample-out.ensures in (
      area_size a.area.now (an_area a.area.now held.ensures.is c.if-held-ne0.false).0,
      λ z.
          let count = sample_count held.result.state a.x a.cells (sym (ap (λ (q : Answered ThirteenState). q.answer) out) ∙ z) in
          omega (arith, ap (λ (q : Answered ThirteenState). q.state.pack.recent.count) out, count),
    )

pub returns : goal.returns
returns c =
    let a = c.args in
    let it = sample-done a.area.now a.x a.cells c.load-held.ensures.is c.if-held-ne0.false c.sample-out.ensures refl c.keep.ensures in
    record { value = it.0; area_after = it.1 }
