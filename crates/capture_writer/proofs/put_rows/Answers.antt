-- `put_rows` meets its contract: the stores left, after those made, are the stores asked. Assumes nothing.
use Rattle.std.proofs.Common.{length, ap, ◌∙◌, arith}
use Rattle.std.specs.Iterator.Adapters.{zip_first, zip_second}
use Rattle.std.specs.Slice.Iter.{iter_rest}
use Rattle.std.proofs.Math.ListN.{length-set}
use Rattle.std.proofs.lemmas.Slice.Zip.{either_empty_from_Zip}
use Rattle.capture_writer.proofs.Given.{none_stored, stored_more, stored_all}
use Rattle.capture_writer.proofs.put_rows.Goals as goal

pub loop-mark-init : goal.loop-mark-init
loop-mark-init c =
    let from = c.into_iter-mark-iterator.ensures.into_iter_gives in
    let z = c.zip-mark-items.ensures in
    none_stored
    (ap (λ x. iter_rest (zip_first x)) from ∙ ap iter_rest z.first ∙ c.iter.ensures.rest)
    (ap (λ x. iter_rest (zip_second x)) from ∙ z.second.0)
    (omega arith)

pub bounds-room-at : goal.bounds-room-at
bounds-room-at c =
    let h = c.loop-mark.invariant in
    let s = c.in-Some.ensures.steps in
    omega (arith, h.place, h.size, ap length s.0)

pub bounds-room-at-in-loop-mark : goal.bounds-room-at-in-loop-mark
bounds-room-at-in-loop-mark c =
    let h = c.loop-mark.invariant in
    let s = c.in-Some.ensures.steps in
    simp length-set (omega (arith, h.place, h.size, ap length s.0))

pub overflow_add-room : goal.overflow_add-room
overflow_add-room c = let h = c.loop-mark.invariant in omega (arith, h.place)

pub overflow_add-at : goal.overflow_add-at
overflow_add-at c = let h = c.loop-mark.invariant in omega (arith, h.place)

pub loop-mark-preserved : goal.loop-mark-preserved
loop-mark-preserved c = let h = c.loop-mark.invariant in let s = c.in-Some.ensures.steps in stored_more h s.0 s.1

pub returns : goal.returns
returns c = stored_all _ _ _ _ _ _ c.loop-mark.invariant (either_empty_from_Zip c.loop-mark.mark-iterator c.next.new.self c.next.result c.in-None.is c.next.ensures.steps)

pub shape_of-room : goal.shape_of-room
shape_of-room c = c.loop-mark.invariant.size
