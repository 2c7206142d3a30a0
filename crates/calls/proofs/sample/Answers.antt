-- `calls::sample` meets its contract.
-- Assumes nothing.
use mathlib.Core.Path.{refl, sym, ap, ◌∙◌}
use native.Mathlib.Omega.{arith}
use lib.ListN.{length}
use Rattle.area.proofs.Whole.{area_size}
use Rattle.calls.proofs.Areas.{an_area, sample_count, sample_most, sample-none, sample-done}
use Rattle.clock.specs.declared.Sampled.{Sampled}
use Rattle.calls.specs.Calls.{stays}
use Rattle.calls.proofs.sample.Goals as goal

pub returns-then-held-ne0 : goal.returns-then-held-ne0
returns-then-held-ne0 c =
    let a = c.args in
    let it = sample-none a.area.now a.sample a.room.now c.load-held.ensures.is c.if-held-ne0.true in
    record { value = it.0; area_after = it.1.0; room_after = it.1.1 }

pub keep-requires : goal.keep-requires
keep-requires c =
    let a = c.args in
    let out = c.sample-out.ensures.result in
    let held = c.load-held in (
      area_size a.area.now (an_area a.area.now held.ensures.is c.if-held-ne0.false).0,
      λ h.
          let count = sample_count held.result.state a.sample (length a.room.now) (sym (ap (λ (q : Sampled). stays q.answer) out) ∙ h) in
          omega (arith, ap (λ (q : Sampled). q.state.pack.recent.count) out, count),
    )

pub pack_up-requires : goal.pack_up-requires
pack_up-requires c =
    let a = c.args in
    let e = ap (λ (q : Sampled). q.length) c.sample-out.ensures.result in
    omega (arith, e, sample_most c.load-held.result.state a.sample (length a.room.now))

pub returns : goal.returns
returns c =
    let a = c.args in
    let out = c.sample-out.ensures in
    let it = sample-done a.area.now a.sample a.room.now c.load-held.ensures.is c.if-held-ne0.false refl out.result out.memory c.keep.ensures c.pack_up.ensures in
    record { value = it.0; area_after = it.1.0; room_after = it.1.1 }
