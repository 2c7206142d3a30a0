use Rattle.clock.specs.Sample.{moved_of}
use Rattle.std.proofs.Common.{rules}
use Rattle.clock.proofs.moved.Goals as goal

pub returns : goal.returns
unfolding moved_of
returns c =
    simp (
      c.host_sampled-host.ensures,
      c.sampled-timers.ensures,
      c.sampled-tank.ensures,
      c.sampled-recent.ensures,
      c.latest_of-latest.ensures,
      c.elapsed-time.ensures,
    )
