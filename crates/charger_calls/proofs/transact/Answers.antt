-- `charger_calls::transact` meets its contract.
-- Assumes nothing.
use native.Mathlib.Omega.{arith}
use lib.ListN.{length}
use Rattle.charger_area.proofs.Whole.{area_size}
use Rattle.charger_calls.proofs.Areas.{an_area, transact_most, transact-none, transact-done}
use Rattle.charger_calls.proofs.transact.Goals as goal

pub returns-then-held-ne0 : goal.returns-then-held-ne0
returns-then-held-ne0 c =
    let a = c.args in
    let it = transact-none a.area.now a.read a.bytes.now a.room.now c.load-held.ensures.is c.if-held-ne0.true in
    record { value = it.0; area_after = it.1.0; room_after = it.1.1 }

pub keep-requires : goal.keep-requires
keep-requires c = let a = c.args in area_size a.area.now (an_area a.area.now c.load-held.ensures.is c.if-held-ne0.false).0

pub pack_up-requires : goal.pack_up-requires
pack_up-requires c =
    let a = c.args in
    omega (arith, transact_most _ a.read a.bytes.now (length a.room.now) c.transact-done.ensures.result)

pub returns : goal.returns
returns c =
    let a = c.args in
    let held = c.load-held in
    let is = c.if-held-ne0.false in
    let out = c.transact-done.ensures in
    let it = transact-done a.area.now a.read a.bytes.now a.room.now held.ensures.is is out.result out.memory c.keep.ensures c.pack_up.ensures in
    record { value = it.0; area_after = it.1.0; room_after = it.1.1 }
