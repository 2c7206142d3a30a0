-- `fit` meets its contract: the rows passed fit, and the rest decides as the whole does. Assumes nothing.
use Rattle.std.specs.Iterator.Adapters.{zip_first, zip_second}
use Rattle.std.specs.Slice.Iter.{iter_rest}
use Rattle.capture_writer.proofs.Given.{Tested}
use Rattle.capture_writer.proofs.fit.Given as goal

abbrev pub invariant-loop-mark : goal.invariant-loop-mark
invariant-loop-mark l = Tested l.marks l.lengths (iter_rest (zip_first l.mark-iterator)) (iter_rest (zip_second l.mark-iterator)) l.total
