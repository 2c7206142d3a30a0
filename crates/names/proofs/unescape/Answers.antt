use Rattle.names.proofs.Unescaping.{plain-none, plain-some, plain-long, plain-wrote}
use Rattle.names.proofs.unescape.Goals as goal

pub returns-in_default : goal.returns-in_default
returns-in_default c = let n = plain-none c.args.part.now c.read_from.ensures c.in_default.not-Ended in record { value = rw n; room_after = rw n }

pub returns-then-room-n : goal.returns-then-room-n
returns-then-room-n c =
    let a = c.args in
    let p = plain-long a.part.now a.room.now (plain-some _ _ c.in-Ended.ensures) c.if-room-n.true in
    record { value = p.0; room_after = p.1 }

pub put_plain-requires : goal.put_plain-requires
put_plain-requires c =
    let p = plain-some _ _ c.in-Ended.ensures in
    record { part_value = p.is; n_value = p.count; n_in_bounds = c.if-room-n.false }

pub returns : goal.returns
returns c =
    let a = c.args in
    let p = plain-wrote a.part.now a.room.now (plain-some _ _ c.in-Ended.ensures) c.if-room-n.false c.put_plain.ensures in
    record { value = p.0; room_after = p.1 }
