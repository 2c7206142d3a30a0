-- `write_capture` meets its contract: the stores after each other are those of the capture. Assumes nothing.
use Rattle.std.proofs.Common.{length, arith, sym}
use Rattle.std.proofs.Math.ListN.{length-set}
use Rattle.std.proofs.lemmas.Result.{err_from_is_err_and}
use Rattle.capture_writer.proofs.Written.{not_refused, refused, served}
use Rattle.capture_writer.proofs.write_capture.Goals as goal

pub returns-in_err-allowed : goal.returns-in_err-allowed
returns-in_err-allowed c =
    let p = err_from_is_err_and c.from_residual.result c.from_residual.ensures.1 in
    let r = refused _ _ _ c.args.room.now c.allowed.ensures c.in_err-allowed.was in
    record { value = rw (p.1, p.2) r.0; room_after = r.1 }

pub overflow_cast-room : goal.overflow_cast-room
overflow_cast-room c = let o = not_refused _ _ _ c.args.room.now c.allowed.ensures c.in_ok-allowed.was in omega (arith, o.1.byte)

pub bounds-room-0 : goal.bounds-room-0
bounds-room-0 c = let o = not_refused _ _ _ c.args.room.now c.allowed.ensures c.in_ok-allowed.was in omega (arith, o.0)

pub put_rows-requires : goal.put_rows-requires
put_rows-requires c = let o = not_refused _ _ _ c.args.room.now c.allowed.ensures c.in_ok-allowed.was in (sym o.1.even, simp length-set (omega (arith, o.0, o.1.even)))

pub put_bytes-requires : goal.put_bytes-requires
put_bytes-requires c = let o = not_refused _ _ _ c.args.room.now c.allowed.ensures c.in_ok-allowed.was in omega (arith, o.0, o.1.even, c.put_rows.auto.room, length-set c.args.room.now 0 (length c.args.marks.now))

pub returns : goal.returns
returns c =
    let o = not_refused _ _ _ c.args.room.now c.allowed.ensures c.in_ok-allowed.was in
    let r = served _ _ _ c.args.room.now c.allowed.ensures c.in_ok-allowed.was c.put_rows.ensures (omega (arith, o.1.byte)) c.put_bytes.ensures in
    record { value = r.0; room_after = r.1 }
