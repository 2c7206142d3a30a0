-- Document 02, R-2: time since set-up is cut into whole seconds, and each sample's current counts for the milliseconds since the sample before, shared
-- among the seconds it crosses.
-- Assumes nothing.
use Rattle.std.specs.Prelude.{ℕ, ◌+◌, ◌-◌, ◌/◌, ◌%◌, min, cond, ◌∷◌, ◌++◌, take, replicate, pos, ◌+ℤ◌, ◌*ℤ◌, nat_lt}
use Rattle.std.specs.Int.{w16, w32}
use Rattle.std.proofs.Common.{to_z, of_z}
use Rattle.recent.specs.declared.Recent.{Recent}

-- a total after a current flowed for so many milliseconds more
abbrev pub flowed_of : ℕ → ℕ → ℕ → ℕ
flowed_of total current ms = of_z w32 (to_z w32 total +ℤ to_z w16 current *ℤ pos ms)

-- the milliseconds that the begun second lacks
abbrev pub lacking : Recent → ℕ
lacking r = 1000 - r.begun

-- those of a sample that come after it is complete
abbrev pub beyond : Recent → ℕ → ℕ
beyond r elapsed = elapsed - lacking r

-- the begun second goes on; or it is complete, and with it the whole seconds that fit in what is beyond, and the rest begins the next (RULES 7.4)
unfoldable pub recent_after : Recent → ℕ → ℕ → Recent
recent_after r current elapsed =
    cond (nat_lt elapsed (lacking r))
    (record { totals = r.totals; count = r.count; begun = r.begun + elapsed; total = flowed_of r.total current elapsed })
    (record {
      totals =
          take 60
          (replicate (beyond r elapsed / 1000) (flowed_of 0 current 1000) ++ (flowed_of r.total current (lacking r) ∷ r.totals));
      count = min 60 (r.count + 1 + beyond r elapsed / 1000);
      begun = beyond r elapsed % 1000;
      total = flowed_of 0 current (beyond r elapsed % 1000);
    })
