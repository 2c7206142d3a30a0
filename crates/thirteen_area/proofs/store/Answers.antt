-- `thirteen_area::store` meets its contract.
-- Assumes nothing.
use borrow.Author.Tests.{le-leb, lt-leb, eq-eqb, ne_eqb}
use mathlib.Core.Path.{ap, ◌∙◌}
use native.Mathlib.Omega.{arith}
use Prim.Native.Nat.{◌<◌}
use Rattle.thirteen_area.proofs.Whole.{loaded_back}
use Rattle.thirteen_area.specs.Area.{stored_room, loaded_of}
use Rattle.thirteen_area.proofs.store.Goals as goal

pub returns-then-room-ne-LENGTH : goal.returns-then-room-ne-LENGTH
unfolding stored_room
returns-then-room-ne-LENGTH c =
    let other = ne_eqb _ _ c.if-room-ne-LENGTH.true in
    record { answer = rw other; memory = rw other; back = λ z. absurd (omega (arith, z)) }

pub returns-then-s-gt255 : goal.returns-then-s-gt255
unfolding stored_room
returns-then-s-gt255 c =
    let n = eq-eqb _ _ c.if-room-ne-LENGTH.false in
    let more = lt-leb _ _ c.if-s-gt255.true in
    record { answer = rw (n, more); memory = rw (n, more); back = λ z. absurd (omega (arith, z)) }

pub returns : goal.returns
unfolding stored_room
returns c =
    let n = eq-eqb _ _ c.if-room-ne-LENGTH.false in
    let most = le-leb _ _ c.if-s-gt255.false in
    let e = c.put_state.ensures in
    let s = c.args.s in
    let small : s.pack.recent.count < 256 = omega (arith, c.if-s-gt255.false) in
    record { answer = rw (n, most); memory = rw (n, most) e.memory; back = λ z. ap loaded_of e.memory ∙ loaded_back s e.fit small }
