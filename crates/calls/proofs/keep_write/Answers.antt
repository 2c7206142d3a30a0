-- `calls::keep_write` meets its contract.
-- Assumes nothing.
use Rattle.calls.proofs.Stores.{written_put}
use Rattle.calls.proofs.keep_write.Goals as goal

pub returns : goal.returns
returns c =
    written_put c.args.area.now c.args.state c.requires
    c.keep_error.ensures
    c.put_host.ensures
    c.put_timers.ensures
