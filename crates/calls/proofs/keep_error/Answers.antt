-- `calls::keep_error` meets its contract.
-- Assumes nothing.
use native.Mathlib.Omega.{arith}
use Rattle.calls.proofs.Stores.{error_put}
use Rattle.calls.proofs.keep_error.Goals as goal

pub returns : goal.returns
returns c = error_put c.args.area.now c.args.error c.requires (omega arith)
