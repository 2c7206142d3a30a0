-- `pec::pec` meets its contract.
-- Assumes nothing.
use Rattle.pec.specs.Pec.{pec_of}
use Rattle.pec.proofs.pec.Goals as goal

pub returns : goal.returns
unfolding pec_of
returns c = c.pec_from.ensures
