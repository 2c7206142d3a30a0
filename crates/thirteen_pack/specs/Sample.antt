-- Request R-10: what a sample does to a thirteen-cell pack.
-- Assumes nothing.
use Rattle.std.specs.Prelude.{ℕ, cond, not, List}
use Rattle.capacity.specs.Capacity.{fully_discharged_of}
use Rattle.clock.specs.Sample.{elapsed_of}
use Rattle.pack.specs.Kept.{latest_of}
use Rattle.pack.specs.declared.Sample.{Sample}
use Rattle.seconds.specs.Seconds.{recent_after}
use Rattle.tank.specs.Charge.{charge_after}
use Rattle.thirteen_pack.specs.Sound.{sound_of}
use Rattle.thirteen_pack.specs.declared.Level.{Level}
use Rattle.thirteen_pack.specs.declared.Thirteen.{Thirteen}
use Rattle.pack.specs.declared.Answered.{Answered}
use Rattle.thirteen_pack.specs.declared.ThirteenState.{ThirteenState}

-- a sample adds current × elapsed to the charge, held between 0 and full, which stays; then bit 4 (RULES 6.23, 7.3, 15.5)
abbrev pub level_after : Level → ℕ → ℕ → Level
level_after l current elapsed =
    record {
      charge = charge_after l.charge l.full current elapsed;
      full = l.full;
      FullyDischarged = fully_discharged_of l.FullyDischarged (charge_after l.charge l.full current elapsed) l.full;
    }

-- the pack after a sample: it becomes the latest, with the cells that it brings; charge and the recent minute move on by what elapsed (RULES 15.5)
unfoldable pub sampled_of : Thirteen → Sample → List ℕ → Thirteen
sampled_of p x cells =
    record {
      fixed = p.fixed;
      latest = latest_of x;
      cells = cells;
      level = level_after p.level (latest_of x).current (elapsed_of x.counter p.latest.counter);
      recent = recent_after p.recent (latest_of x).current (elapsed_of x.counter p.latest.counter);
    }

-- 1: state isn't sound, and nothing changes; else 0, and the error code stays (RULES 1.1, 2.7, 15.5)
unfoldable pub sample_of : ThirteenState → Sample → List ℕ → Answered ThirteenState
sample_of s x cells =
    cond (not (sound_of s)) (record { answer = 1; state = s })
    (record { answer = 0; state = record { error = s.error; pack = sampled_of s.pack x cells } })
