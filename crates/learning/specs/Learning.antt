-- Request R-4: a run, and the full capacity that its close teaches. Charge in mA·ms, capacity in mAh.
-- Assumes nothing.
use Rattle.std.specs.Prelude.{ℕ, ◌+◌, ◌/◌, min, max, Bool, cond, not, ◌&&◌, ◌||◌}
use Rattle.capacity.specs.Capacity.{milliamp_ms}
use Rattle.learning.specs.declared.Seen.{Seen}
use Rattle.pack.specs.declared.Run.{Run}

-- of later samples not leaving the pack full, the first with TERMINATE_DISCHARGE set closes the run (RULES 7.12)
abbrev pub closes : Run → Seen → Bool
closes u v = u.opened && not v.filled && v.ends

-- one with current above 0 ends it unused; any other that doesn't close it counts on (RULES 7.12)
abbrev pub counts_on : Run → Seen → Bool
counts_on u v = u.opened && not v.filled && not v.rises && not v.ends

-- the charge drawn in the run, this sample's included, held at 65,535 mAh (RULES 7.11)
abbrev pub drawn_in : Run → Seen → ℕ
drawn_in u v = min (milliamp_ms 65535) (u.drawn + v.drawn)

-- a sample that leaves the pack full opens a run at 0, again too; with none open the count is 0 (RULES 7.11)
abbrev pub run_after : Run → Seen → Run
run_after u v = record { opened = v.filled || counts_on u v; drawn = cond (counts_on u v) (drawn_in u v) 0 }

-- at the close full becomes the whole mAh drawn, at least 1 and at most 65,535 (RULES 7.13)
abbrev pub learned : Run → Seen → ℕ
learned u v = max 1 (min 65535 (drawn_in u v / 3600000))
