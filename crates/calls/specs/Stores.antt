-- The area after what a transaction stores of it, part by part; that this is the area of specs/Calls is proved in proofs/Stores.
-- Definitions: assumes nothing.
use Rattle.std.specs.Prelude.{Bool, cond, not, ◌&&◌, List, ◌++◌, ℕ, eqb, ltb, leb, drop}
use Rattle.area.specs.Area.{settings_at, host_at, latest_at, timers_at, recent_at}
use Rattle.area_parts.specs.Parts.{host_bytes, timers_bytes}
use Rattle.numbers.specs.Numbers.{number_bytes}
use Rattle.pack.specs.declared.State.{State}
use Rattle.rooms.specs.Rooms.{between}

-- the error code alone (RULES 12.4)
abbrev pub error_stored : List ℕ → ℕ → List ℕ
error_stored area error = number_bytes 1 error ++ drop settings_at area

-- the error code, what the host wrote and the timers (RULES 12.4)
abbrev pub written_stored : List ℕ → State → List ℕ
written_stored area state =
    number_bytes 1 state.error
    ++ between area settings_at host_at
    ++ host_bytes state.pack.host
    ++ between area latest_at timers_at
    ++ timers_bytes state.pack.timers
    ++ drop recent_at area

-- a served write stores these three; 1 to 3 store nothing; a read and every other refusal the error code (RULES 12.4)
unfoldable pub transact_stored : List ℕ → Bool → ℕ → State → List ℕ
transact_stored area read answer state =
    cond (eqb answer 0 && not read) (written_stored area state)
    (cond (ltb 0 answer && leb answer 3) area (error_stored area state.error))
