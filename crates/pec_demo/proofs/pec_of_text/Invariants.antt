-- `pec_demo::pec_of_text`: what is left of the text, two characters at a time, takes the PEC so far to that of the whole.
-- Assumes nothing.
use Rattle.std.proofs.Common.{◌≡◌}
use Rattle.std.specs.Slice.Iter.{chunks_exact_rest, chunks_exact_size}
use Rattle.pec.specs.Pec.{pec_from}
use Rattle.pec_demo.specs.Hex.{bytes_of}
use Rattle.pec_demo.proofs.pec_of_text.Given as goal

abbrev pub invariant-loop-pair : goal.invariant-loop-pair
invariant-loop-pair l =
    (chunks_exact_size l.pair-iterator ≡ 2) × (pec_from l.acc (bytes_of (chunks_exact_rest l.pair-iterator)) ≡ pec_from l.start (bytes_of l.text))
