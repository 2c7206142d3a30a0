-- What is proved of calls on a charger's area. Assumes nothing: these are definitions.
use Rattle.std.specs.Prelude.{◌≡◌, Bool, true, List, ℕ}
use Rattle.charger_area.specs.Area.{charger_area_of, is_charger_area}
use Rattle.charger_calls.specs.Calls.{sampled, sample_area, transacted, transact_area}
use Rattle.pack.specs.declared.Sample.{Sample}
use Rattle.rooms.specs.Rooms.{Bytes}

-- what is stored is enough: after every sample the area is that of the state left (RULES 14.12)
abbrev pub SampleHolds : Type 0
SampleHolds = (area : List ℕ) (sample : Sample) → Bytes area → is_charger_area area ≡ true → sample_area area sample ≡ charger_area_of (sampled area sample).state

-- and after every transaction, so that what is proved of the charger's states holds of its areas (RULES 14.12)
abbrev pub TransactHolds : Type 0
TransactHolds =
    (area : List ℕ) (read : Bool) (bytes room : List ℕ) → Bytes area → is_charger_area area ≡ true
    → transact_area area read bytes room ≡ charger_area_of (transacted area read bytes room).state
