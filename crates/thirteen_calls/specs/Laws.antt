-- What is proved of calls on a thirteen-cell pack's area. Assumes nothing: these are definitions.
use Rattle.std.specs.Prelude.{◌≡◌, Bool, true, List, ℕ}
use Rattle.pack.specs.declared.Sample.{Sample}
use Rattle.rooms.specs.Rooms.{Bytes}
use Rattle.thirteen_area.specs.Area.{thirteen_area_of, is_thirteen_area}
use Rattle.thirteen_calls.specs.Calls.{sampled, sample_area, transacted, transact_area}

-- what is stored is enough: after every sample the area is that of the state left (RULES 15.12)
abbrev pub SampleHolds : Type 0
SampleHolds =
    (area : List ℕ) (x : Sample) (cells : List ℕ) → Bytes area → is_thirteen_area area ≡ true
    → sample_area area x cells ≡ thirteen_area_of (sampled area x cells).state

-- and after every transaction, so that what is proved of this pack's states holds of its areas (RULES 15.12)
abbrev pub TransactHolds : Type 0
TransactHolds =
    (area : List ℕ) (read : Bool) (bytes room : List ℕ) → Bytes area → is_thirteen_area area ≡ true
    → transact_area area read bytes room ≡ thirteen_area_of (transacted area read bytes room).state
