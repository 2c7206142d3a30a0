-- `charger_area::store` meets its contract.
-- Assumes nothing.
use borrow.Author.Tests.{eq-eqb, ne_eqb}
use native.Mathlib.Omega.{arith}
use mathlib.Core.Path.{ap, ◌∙◌}
use Rattle.charger_area.specs.Area.{stored_room, loaded_of}
use Rattle.charger_area.proofs.Whole.{loaded_back}
use Rattle.charger_area.proofs.store.Goals as goal

pub returns-then-room-ne-LENGTH : goal.returns-then-room-ne-LENGTH
unfolding stored_room
returns-then-room-ne-LENGTH c =
    let other = ne_eqb _ _ c.if-room-ne-LENGTH.true in
    record { answer = rw other; memory = rw other; back = λ z. absurd (omega (arith, z)) }

pub returns : goal.returns
unfolding stored_room
returns c =
    let n = eq-eqb _ _ c.if-room-ne-LENGTH.false in
    let e = c.put_state.ensures in
    record { answer = rw n; memory = rw n e.memory; back = λ z. ap loaded_of e.memory ∙ loaded_back c.args.s e.fit }
