-- `put_rows` meets its contract: the stores left, after those made, are the stores asked. Assumes nothing.
use Rattle.std.specs.Iterator.Adapters.{zip_first, zip_second}
use Rattle.std.specs.Slice.Iter.{iter_rest}
use Rattle.capture_writer.proofs.Given.{Stored}
use Rattle.capture_writer.proofs.put_rows.Given as goal

abbrev pub invariant-loop-mark : goal.invariant-loop-mark
invariant-loop-mark l = Stored l.marks l.lengths (iter_rest (zip_first l.mark-iterator)) (iter_rest (zip_second l.mark-iterator)) l.initial.room l.room l.at
