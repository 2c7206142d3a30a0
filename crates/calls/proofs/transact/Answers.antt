-- `calls::transact` meets its contract.
-- Assumes nothing.
use native.Mathlib.Omega.{arith}
use mathlib.Core.Path.{ap, ◌∙◌}
use lib.ListN.{length}
use Rattle.area.proofs.Whole.{area_size}
use Rattle.calls.proofs.Areas.{an_area, transact_most, transact-none, transact-done}
use Rattle.calls.proofs.Stores.{kept}
use Rattle.commands.specs.declared.Transacted.{Transacted}
use Rattle.pack.specs.declared.State.{State}
use Rattle.calls.proofs.transact.Goals as goal

pub returns-then-held-ne0 : goal.returns-then-held-ne0
returns-then-held-ne0 c =
    let a = c.args in
    let it = transact-none a.area.now a.service.now a.factory.now a.read a.bytes.now a.room.now c.load-held.ensures.is c.if-held-ne0.true in
    record { value = it.0; area_after = it.1.0; room_after = it.1.1 }

pub keep_transacted-requires : goal.keep_transacted-requires
keep_transacted-requires c =
    let a = c.args in
    area_size a.area.now (an_area a.area.now c.load-held.ensures.is c.if-held-ne0.false).0

pub pack_up-requires : goal.pack_up-requires
pack_up-requires c =
    let a = c.args in
    let e = ap (λ (q : Transacted State). q.length) c.transact-done.ensures.result in
    omega (arith, e, transact_most c.load-held.result.state a.service.now a.factory.now a.read a.bytes.now (length a.room.now))

pub returns : goal.returns
returns c =
    let a = c.args in
    let held = c.load-held in
    let is = c.if-held-ne0.false in
    let out = c.transact-done.ensures in
    let stored = kept held.result.state a.service.now a.factory.now a.bytes.now (length a.room.now) a.read (held.ensures.back is) out.result in
    let it = transact-done a.area.now a.service.now a.factory.now a.read a.bytes.now a.room.now held.ensures.is is out.result out.memory (c.keep_transacted.ensures ∙ stored) c.pack_up.ensures in
    record { value = it.0; area_after = it.1.0; room_after = it.1.1 }
