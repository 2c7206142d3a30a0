-- `pack::discharge_ends` meets its contract.
-- Assumes nothing.
use Rattle.pack.proofs.discharge_ends.Goals as goal

pub returns : goal.returns
returns c = simp c.falls.ensures
