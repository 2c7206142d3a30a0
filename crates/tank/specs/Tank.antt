-- Document 01, Registers, and request R-4: what a sample does to the tank. Charge; then the charge drawn and cycles; then the
-- run, whose close sets full and charge; then bit 4 (RULES 7.14).
-- Assumes nothing.
use Rattle.std.specs.Prelude.{ℕ, Bool, cond, eqb}
use Rattle.capacity.specs.Capacity.{milliamp_ms, fully_discharged_of}
use Rattle.cycles.specs.Cycles.{drawn_by, cycles_after, toward_after}
use Rattle.learning.specs.Learning.{closes, run_after, learned}
use Rattle.learning.specs.declared.Seen.{Seen}
use Rattle.pack.specs.Discharge.{discharge_ends}
use Rattle.pack.specs.declared.Latest.{Latest}
use Rattle.pack.specs.declared.Settings.{Settings}
use Rattle.pack.specs.declared.Tank.{Tank}
use Rattle.tank.specs.Charge.{charge_after}
use Rattle.words.specs.Words.{above}

-- the charge that a sample moves it to (RULES 7.3)
abbrev pub charge_moved : Tank → Latest → ℕ → ℕ
charge_moved t x elapsed = charge_after t.charge t.full x.current elapsed

-- what the run sees of a sample, by the sample's own figures (RULES 7.9, 7.11, 7.12)
unfoldable pub seen_of : Settings → Tank → Latest → ℕ → Seen
seen_of s t x elapsed =
    record {
      filled = eqb (charge_moved t x elapsed) (milliamp_ms t.full);
      rises = above x.current;
      ends = discharge_ends x.voltage x.current s.DischargeLimit;
      drawn = drawn_by x.current elapsed;
    }

-- the sample closes the run (RULES 7.12)
abbrev pub closed : Settings → Tank → Latest → ℕ → Bool
closed s t x elapsed = closes t.run (seen_of s t x elapsed)

-- at the close full becomes what was learned (RULES 7.13)
abbrev pub full_left : Settings → Tank → Latest → ℕ → ℕ
full_left s t x elapsed = cond (closed s t x elapsed) (learned t.run (seen_of s t x elapsed)) t.full

-- and charge becomes 0 (RULES 7.13)
abbrev pub charge_left : Settings → Tank → Latest → ℕ → ℕ
charge_left s t x elapsed = cond (closed s t x elapsed) 0 (charge_moved t x elapsed)

-- the tank after a sample (RULES 7.14)
unfoldable pub tank_after : Settings → Tank → Latest → ℕ → Tank
tank_after s t x elapsed =
    record {
      charge = charge_left s t x elapsed;
      full = full_left s t x elapsed;
      CycleCount = cycles_after s.DesignCapacity t.CycleCount t.toward (drawn_by x.current elapsed);
      FullyDischarged = fully_discharged_of t.FullyDischarged (charge_left s t x elapsed) (full_left s t x elapsed);
      toward = toward_after s.DesignCapacity t.toward (drawn_by x.current elapsed);
      run = run_after t.run (seen_of s t x elapsed);
    }
