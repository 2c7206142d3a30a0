use mathlib.Core.Path.{◌≡◌}
use native.Mathlib.Omega.{arith}
use lib.ListN.{take}
use lib.Seq.{take_all}
use Rattle.names.proofs.Escaping.{escape_length}
use Rattle.key_writer.proofs.Writing.{turn, escape_length_take}
use Rattle.key_writer.proofs.put_name.Goals as goal

pub put_byte-o-requires : goal.put_byte-o-requires
put_byte-o-requires c = omega (arith, escape_length_take c.args.name.now c.loop-b.b-index (omega arith))

pub loop-b-preserved : goal.loop-b-preserved
loop-b-preserved c =
    let called = c.put_byte-o.ensures in
    let t = turn c.args.name.now c.args.room.now c.args.at c.loop-b.b-index c.loop-b-test.true c.loop-b.invariant.place c.loop-b.invariant.laid called.value called.room_after in
    record { place = t.0; laid = t.1 }

pub returns : goal.returns
returns c =
    let whole : take c.loop-b.b-index c.args.name.now ≡ c.args.name.now = take_all _ _ c.loop-b-test.false in
    let e = rw whole at c.loop-b.invariant.place in
    record { value = e; room_after = rw whole at c.loop-b.invariant.laid; lower_bound = omega (arith, e, escape_length c.args.name.now) }
