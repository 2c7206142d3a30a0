-- Request R-10: what set-up gives. Answer 11 and the all-zero state, or 0 and the state of the first sample.
-- Assumes nothing.
use Rattle.std.specs.Prelude.{ℕ, false, cond, List, replicate}
use Rattle.capacity.specs.Capacity.{milliamp_ms, fully_discharged_of}
use Rattle.pack.specs.Kept.{latest_of}
use Rattle.pack.specs.declared.Sample.{Sample}
use Rattle.recent.specs.Recent.{zero_recent}
use Rattle.start.specs.SetUp.{set_up_refused, zero_latest}
use Rattle.start.specs.declared.Setup.{Setup}
use Rattle.thirteen_pack.specs.declared.Fixed.{Fixed}
use Rattle.thirteen_pack.specs.declared.Level.{Level}
use Rattle.thirteen_pack.specs.declared.Thirteen.{Thirteen}
use Rattle.pack.specs.declared.Answered.{Answered}
use Rattle.thirteen_pack.specs.declared.ThirteenState.{ThirteenState}

-- what set-up fixes, the state of health beside the pack's own (RULES 15.4)
abbrev pub fixed_of : Setup → ℕ → Fixed
fixed_of u health = record { DesignCapacity = u.DesignCapacity; DesignVoltage = u.DesignVoltage; StateOfHealth = health }

-- charge begins at remaining; bit 4 is decided from clear (RULES 15.4)
abbrev pub level_of : Setup → Level
level_of u =
    record {
      charge = milliamp_ms u.remaining;
      full = u.full;
      FullyDischarged = fully_discharged_of false (milliamp_ms u.remaining) u.full;
    }

-- the pack that set-up gives; no second is complete, none begun (RULES 15.4)
unfoldable pub pack_of : Setup → ℕ → Sample → List ℕ → Thirteen
pack_of u health first cells =
    record { fixed = fixed_of u health; latest = latest_of first; cells = cells; level = level_of u; recent = zero_recent }

-- the all-zero state
abbrev pub zero_state : ThirteenState
zero_state =
    record {
      error = 0;
      pack =
          record {
            fixed = record { DesignCapacity = 0; DesignVoltage = 0; StateOfHealth = 0 };
            latest = zero_latest;
            cells = replicate 13 0;
            level = record { charge = 0; full = 0; FullyDischarged = false };
            recent = zero_recent;
          };
    }

-- refused as the pack's set-up is: 11 and the all-zero state; else 0 and a state with error code 0 (RULES 1.11, 15.4)
unfoldable pub set_up_of : Setup → ℕ → Sample → List ℕ → Answered ThirteenState
set_up_of u health first cells =
    cond (set_up_refused u) (record { answer = 11; state = zero_state })
    (record { answer = 0; state = record { error = 0; pack = pack_of u health first cells } })
