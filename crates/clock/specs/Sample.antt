-- Document 01, Clock and broadcasts: what a sample does to the pack before anything is sent.
-- Assumes nothing.
use Rattle.std.specs.Prelude.{ℕ, ◌+◌, ◌-◌, ◌%◌, ◌^◌}
use Rattle.pack.specs.Kept.{latest_of}
use Rattle.pack.specs.declared.Pack.{Pack}
use Rattle.pack.specs.declared.Sample.{Sample}
use Rattle.seconds.specs.Seconds.{recent_after}
use Rattle.tank.specs.Tank.{tank_after}
use Rattle.timers.specs.Countdown.{hold_after, host_after, timers_after}

-- elapsed is the new reading minus the old, wrapping (RULES 7.2)
abbrev pub elapsed_of : ℕ → ℕ → ℕ
elapsed_of new old = (new + 2 ^ 32 - old) % 2 ^ 32

-- the pack at the moment of sending: tank, recent minute, countdown and timers are done (RULES 7.3 to 7.6, 7.14)
unfoldable pub moved_of : Pack → Sample → Pack
moved_of p s =
    record {
      settings = p.settings;
      host = host_after p.host (hold_after p.timers (elapsed_of s.counter p.latest.counter));
      latest = latest_of s;
      recent = recent_after p.recent (latest_of s).current (elapsed_of s.counter p.latest.counter);
      tank = tank_after p.settings p.tank (latest_of s) (elapsed_of s.counter p.latest.counter);
      timers = timers_after p.timers p.host.ChargerMode (elapsed_of s.counter p.latest.counter);
    }
