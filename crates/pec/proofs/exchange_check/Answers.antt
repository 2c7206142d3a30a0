-- `pec::exchange_check` meets its contract.
-- Assumes nothing.
use Rattle.std.proofs.Common.{rules}
use Rattle.pec.specs.Messages.{ends_in_pec}
use Rattle.pec.proofs.exchange_check.Goals as goal

pub returns : goal.returns
unfolding ends_in_pec
returns c = search rules
