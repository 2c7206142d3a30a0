-- `calls::set_up` meets its contract.
-- Assumes nothing.
use borrow.Author.Tests.{ne_eqb}
use Rattle.calls.proofs.Areas.{start_refused, start_served}
use Rattle.calls.proofs.set_up.Goals as goal

pub returns-then-area-ne-LENGTH : goal.returns-then-area-ne-LENGTH
returns-then-area-ne-LENGTH c = let other = ne_eqb _ _ c.if-area-ne-LENGTH.true in record { value = rw other; area_after = rw other }

pub returns-then-started-ne0 : goal.returns-then-started-ne0
returns-then-started-ne0 c =
    record { value = (start_refused c.args.area.now c.if-area-ne-LENGTH.false c.set_up-started.ensures c.if-started-ne0.true c.pack_up.ensures).0; area_after = (start_refused c.args.area.now c.if-area-ne-LENGTH.false c.set_up-started.ensures c.if-started-ne0.true c.pack_up.ensures).1 }

pub returns : goal.returns
returns c =
    let a = c.args in
    let it = start_served a.area.now a.setup a.first c.if-area-ne-LENGTH.false c.set_up-started.ensures c.if-started-ne0.false c.store.ensures.memory in
    record { value = it.0; area_after = it.1 }
