use mathlib.Core.Path.{◌≡◌, ap, sym, ◌∙◌}
use mathlib.Core.List.{List}
use Prim.Native.Nat.{ℕ, ◌+◌}
use lib.ListN.{length, get_or}
use lib.Seq.{take_all, length-take-le}
use native.Mathlib.Omega.{arith}
use Rattle.names.specs.Steps.{plain_of}
use Rattle.rooms.proofs.Rooms.{front}
use Rattle.names.proofs.Unescaping.{turn, plain_laid}
use Rattle.names.proofs.put_plain.Goals as goal

pub past_mark-i-requires : goal.past_mark-i-requires
past_mark-i-requires c = (turn c.args.part.now (plain_of c.args.part.now) c.loop-byte.byte-index c.loop-byte.i c.requires.part_value (omega (arith, length-take-le c.args.n c.args.room.now c.requires.n_in_bounds)) c.loop-byte.invariant.marks).mark_within

pub bounds-part-i : goal.bounds-part-i
bounds-part-i c = rw c.past_mark-i.ensures (turn c.args.part.now (plain_of c.args.part.now) c.loop-byte.byte-index c.loop-byte.i c.requires.part_value (omega (arith, length-take-le c.args.n c.args.room.now c.requires.n_in_bounds)) c.loop-byte.invariant.marks).within

pub overflow_add-i : goal.overflow_add-i
overflow_add-i c = omega (arith, c.past_mark-i.ensures, (turn c.args.part.now (plain_of c.args.part.now) c.loop-byte.byte-index c.loop-byte.i c.requires.part_value (omega (arith, length-take-le c.args.n c.args.room.now c.requires.n_in_bounds)) c.loop-byte.invariant.marks).within)

pub loop-byte-preserved : goal.loop-byte-preserved
loop-byte-preserved c =
    let t = turn c.args.part.now (plain_of c.args.part.now) c.loop-byte.byte-index c.loop-byte.i c.requires.part_value (omega (arith, length-take-le c.args.n c.args.room.now c.requires.n_in_bounds)) c.loop-byte.invariant.marks in
    let e = c.past_mark-i.ensures in
    record {
      marks = ap (λ (j : ℕ). j + 1) e ∙ t.next;
      laid = plain_laid (plain_of c.args.part.now) c.loop-byte.byte-items c.loop-byte.byte-index (omega (arith, length-take-le c.args.n c.args.room.now c.requires.n_in_bounds)) (omega arith) c.loop-byte.invariant.laid (ap (λ (j : ℕ). get_or c.args.part.now j 0) e ∙ t.byte);
    }

pub returns : goal.returns
returns c =
    let name : List ℕ = plain_of c.args.part.now in
    let front_is : length c.loop-byte.byte-items ≡ length name = omega (arith, length-take-le c.args.n c.args.room.now c.requires.n_in_bounds) in
    let all : c.loop-byte.byte-items ≡ name = rw (take_all c.loop-byte.byte-index c.loop-byte.byte-items (omega arith), take_all c.loop-byte.byte-index name (omega arith)) at c.loop-byte.invariant.laid in
    rw (all, c.requires.n_value) (sym (front name c.args.room.now (omega arith)))
