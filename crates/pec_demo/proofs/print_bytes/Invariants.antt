-- `pec_demo::print_bytes` goes by two characters.
-- Assumes nothing.
use Rattle.std.proofs.Common.{◌≡◌}
use Rattle.std.specs.Slice.Iter.{chunks_exact_size}
use Rattle.pec_demo.proofs.print_bytes.Given as goal

abbrev pub invariant-loop-pair : goal.invariant-loop-pair
invariant-loop-pair g l = chunks_exact_size l.pair-iterator ≡ 2
