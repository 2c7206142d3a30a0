-- `pec::pec_from`: what is left of the message takes the PEC so far to that of the whole.
-- Assumes nothing.
use Rattle.std.proofs.Common.{◌≡◌, drop}
use Rattle.pec.specs.Pec.{pec_from}
use Rattle.pec.proofs.pec_from.Given as goal

abbrev pub invariant-loop-b : goal.invariant-loop-b
invariant-loop-b l = pec_from l.acc (drop l.b-index l.s) ≡ pec_from l.start l.s
