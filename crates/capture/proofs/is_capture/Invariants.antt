-- `is_capture` meets its contract: the rows passed fit, and their lengths are added up. Assumes nothing.
use Rattle.std.proofs.Common.{◌≡◌, length}
use Rattle.std.specs.Slice.Iter.{chunks_exact_rest, chunks_exact_size}
use Rattle.capture.proofs.Check.{Passed}
use Rattle.capture.proofs.is_capture.Given as goal

abbrev pub invariant-loop-row : goal.invariant-loop-row
invariant-loop-row l = (chunks_exact_size l.row-iterator ≡ 2) × Passed l.s l.bodies (chunks_exact_rest l.row-iterator) (length l.yielded) l.total
