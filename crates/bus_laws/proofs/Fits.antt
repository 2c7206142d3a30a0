-- Every call leaves fields that hold what their types let them hold.
-- Assumes nothing.
use Prim.Native.Nat.{ℕ, ◌^◌, ◌<◌}
use mathlib.Core.Bool.{Bool, true, false, cond}
use native.Mathlib.Omega.{arith}
use lib.Dec.{eqb}
use Rattle.bus.specs.Transact.{pack_after, asked, transact_of}
use Rattle.commands.proofs.Answers.{code_most}
use Rattle.bus_laws.specs.Calls.{answer}
use Rattle.bus_laws.specs.Promises.{FitsStays}
use Rattle.commands.specs.Answers.{served}
use Rattle.frame.specs.declared.Request.{Request}
use Rattle.frame.specs.declared.Request.TheVariants.{Refused, Read, Write}
use Rattle.frame_laws.proofs.Requests.{asked_fits}
use Rattle.frame_laws.specs.Requests.{RequestFits}
use Rattle.gauge_laws.proofs.Range.{pick}
use Rattle.pack.specs.Fits.{HostFit, TimersFit, PackFits}
use Rattle.pack.specs.declared.Host.{Host}
use Rattle.pack.specs.declared.Pack.{Pack}
use Rattle.pack.specs.declared.Timers.{Timers}
use Rattle.written.specs.Written.{bit_set, host_written, timers_written, pack_written}

written_host : (h : Host) (command w : ℕ) → HostFit h → w < 65536 → HostFit (host_written h command w)
unfolding host_written
written_host h command w f l =
    record {
      ManufacturerAccess = pick (eqb command 0x00) w h.ManufacturerAccess l f.ManufacturerAccess;
      RemainingCapacityAlarm = pick (eqb command 0x01) w h.RemainingCapacityAlarm l f.RemainingCapacityAlarm;
      RemainingTimeAlarm = pick (eqb command 0x02) w h.RemainingTimeAlarm l f.RemainingTimeAlarm;
      AtRate = pick (eqb command 0x04) w h.AtRate l f.AtRate;
    }

-- a timer that a write to 03 starts, ends or leaves
timer : (here b : Bool) (x y t : ℕ) → x < 2 ^ 32 → y < 2 ^ 32 → t < 2 ^ 32 → cond here (cond b x y) t < 2 ^ 32
timer true true x y t f g h = f
timer true false x y t f g h = g
timer false b x y t f g h = h

written_timers : (t : Timers) (command w : ℕ) → TimersFit t → TimersFit (timers_written t command w)
unfolding timers_written
written_timers t command w f =
    record {
      hold = timer (eqb command 0x03) (bit_set 13 w) 60000 0 t.hold (omega arith) (omega arith) f.hold;
      alarm = f.alarm;
      charger = timer (eqb command 0x03) (bit_set 14 w) 0 t.charger t.charger (omega arith) f.charger f.charger;
    }

written_pack : (p : Pack) (command w : ℕ) → PackFits p → w < 65536 → PackFits (pack_written p command w)
unfolding pack_written
written_pack p command w f l =
    record {
      settings = f.settings;
      host = written_host p.host command w f.host l;
      latest = f.latest;
      recent = f.recent;
      tank = f.tank;
      timers = written_timers p.timers command w f.timers;
    }

pub fits_stays : FitsStays
unfolding transact_of
fits_stays s c f h =
    record { error = omega (arith, code_most 255 (answer s c) s.error (omega arith) (omega (arith, f.error))); pack = go (asked c.read c.bytes) (asked_fits 0x16 c.read c.bytes h) }
  where
    by-write : (command w : ℕ) (v : Bool) → w < 65536 → PackFits (cond v (pack_written s.pack command w) s.pack)
    by-write command w true l = written_pack s.pack command w f.pack l
    by-write command w false l = f.pack

    go : (q : Request) → RequestFits q → PackFits (pack_after s.pack q (answer s c))
    go (Refused n) b = f.pack
    go (Read command) b = f.pack
    go (Write command w checked) b = by-write command w (served (answer s c)) b.1
