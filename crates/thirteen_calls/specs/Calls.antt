-- Request R-10: the thirteen-cell pack in a lent area: the number that each call gives, and the area and the room after it. Bytes that are no
-- area hold no state: that is the answer, and nothing is written. Definitions: assumes nothing.
use Rattle.std.specs.Prelude.{Bool, cond, ◌&&◌, List, ℕ, eqb, ltb, leb, length, set}
use Rattle.pack.specs.declared.Sample.{Sample}
use Rattle.packed.specs.Packed.{packed}
use Rattle.thirteen.specs.Transact.{transact_of, reply_room}
use Rattle.commands.specs.declared.Transacted.{Transacted}
use Rattle.thirteen_area.specs.Area.{thirteen_length, thirteen_area_of, state_in, is_thirteen_area}
use Rattle.thirteen_pack.specs.Sample.{sample_of}
use Rattle.thirteen_pack.specs.Sound.{sound_of}
use Rattle.pack.specs.declared.Answered.{Answered}
use Rattle.thirteen_pack.specs.declared.ThirteenState.{ThirteenState}

-- the area after a set-up or a sample: what is answered 0 stores its whole state, a refusal nothing (RULES 15.4, 15.5, 15.12)
abbrev pub area_after : List ℕ → ℕ → ThirteenState → List ℕ
area_after area answer state = cond (eqb answer 0) (thirteen_area_of state) area

-- ---- set-up

-- set-up's own answer; 1 for an area of another size (RULES 15.4, 15.12)
abbrev pub start_number : List ℕ → Answered ThirteenState → ℕ
start_number area started = cond (eqb (length area) thirteen_length) started.answer 1

-- the area after it: one of another size stays (RULES 15.4, 15.12)
abbrev pub start_area : List ℕ → Answered ThirteenState → List ℕ
start_area area started = cond (eqb (length area) thirteen_length) (area_after area started.answer started.state) area

-- ---- soundness

-- the bytes are an area, and its state is sound (RULES 15.3, 15.12)
abbrev pub sound_in : List ℕ → Bool
sound_in area = is_thirteen_area area && sound_of (state_in area)

-- ---- samples

-- a sample on the area's state, where the bytes hold one
abbrev pub sampled : List ℕ → Sample → List ℕ → Answered ThirteenState
sampled area x cells = sample_of (state_in area) x cells

-- its answer; 1 where there is none (RULES 15.5, 15.12)
unfoldable pub sample_number : List ℕ → Sample → List ℕ → ℕ
sample_number area x cells = cond (is_thirteen_area area) (sampled area x cells).answer 1

-- the area after it: an accepted one stores the whole (RULES 15.12)
unfoldable pub sample_area : List ℕ → Sample → List ℕ → List ℕ
sample_area area x cells = cond (is_thirteen_area area) (area_after area (sampled area x cells).answer (sampled area x cells).state) area

-- ---- transactions

-- answers 1 to 3 store nothing, all others the first byte alone: the error code (RULES 15.12)
abbrev pub error_stored : List ℕ → ℕ → ℕ → List ℕ
error_stored area answer error = cond (ltb 0 answer && leb answer 3) area (set area 0 error)

-- a transaction on the area's state, where the bytes hold one
abbrev pub transacted : List ℕ → Bool → List ℕ → List ℕ → Transacted ThirteenState
transacted area read bytes room = transact_of (state_in area) read bytes (length room)

-- its answer with the reply's length above it; 1 where there is none (RULES 12.3, 15.12)
unfoldable pub transact_number : List ℕ → Bool → List ℕ → List ℕ → ℕ
transact_number area read bytes room =
    cond (is_thirteen_area area) (packed (transacted area read bytes room).answer (transacted area read bytes room).length) 1

-- the area after it: at most its error code is another (RULES 15.11, 15.12)
unfoldable pub transact_area : List ℕ → Bool → List ℕ → List ℕ → List ℕ
transact_area area read bytes room =
    cond (is_thirteen_area area) (error_stored area (transacted area read bytes room).answer (transacted area read bytes room).state.error) area

-- the room after it (RULES 2.5, 15.12)
unfoldable pub transact_room : List ℕ → Bool → List ℕ → List ℕ → List ℕ
transact_room area read bytes room = cond (is_thirteen_area area) (reply_room (state_in area) read bytes room) room
