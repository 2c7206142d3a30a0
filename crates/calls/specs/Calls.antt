-- The pack in a lent area: the number that each call gives, and the area and the room after it. Bytes that are no area hold
-- no state: that is the answer, and nothing is written. Definitions: assumes nothing.
use Rattle.std.specs.Prelude.{Bool, cond, ◌&&◌, ◌||◌, List, ℕ, eqb, length}
use Rattle.area.specs.Area.{area_length, area_of, state_in, is_area, no_state}
use Rattle.bus.specs.Transact as bus
use Rattle.commands.specs.declared.Transacted.{Transacted}
use Rattle.clock.specs.Broadcast as clock
use Rattle.clock.specs.declared.Sampled.{Sampled}
use Rattle.pack.specs.Sound.{sound_of}
use Rattle.pack.specs.declared.Sample.{Sample}
use Rattle.pack.specs.declared.Answered.{Answered}
use Rattle.pack.specs.declared.State.{State}
use Rattle.packed.specs.Packed.{packed}

-- ---- set-up

-- no state goes into an area of another size; else set-up's own answer (RULES 1.1, 1.11)
abbrev pub start_number : List ℕ → Answered State → ℕ
start_number area started = cond (eqb (length area) area_length) started.answer no_state

-- a served set-up leaves its state; a refused one the area as it was (RULES 1.11)
abbrev pub start_area : List ℕ → Answered State → List ℕ
start_area area started = cond (eqb (length area) area_length && eqb started.answer 0) (area_of started.state) area

-- ---- soundness

-- the bytes are an area, and its state is sound (RULES 12.2)
abbrev pub sound_in : List ℕ → Bool
sound_in area = is_area area && sound_of (state_in area)

-- ---- samples and transactions

-- 1 and 2 change nothing; with any other answer the area holds the state that the call leaves (RULES 2.3)
abbrev pub stays : ℕ → Bool
stays answer = eqb answer 1 || eqb answer 2

abbrev pub area_after : List ℕ → ℕ → State → List ℕ
area_after area answer state = cond (stays answer) area (area_of state)

-- a sample on the area's state
abbrev pub sampled : List ℕ → Sample → List ℕ → Sampled
sampled area sample room = clock.sample_of (state_in area) sample (length room)

unfoldable pub sample_number : List ℕ → Sample → List ℕ → ℕ
sample_number area sample room =
    cond (is_area area) (packed (sampled area sample room).answer (sampled area sample room).length) no_state

unfoldable pub sample_area : List ℕ → Sample → List ℕ → List ℕ
sample_area area sample room =
    cond (is_area area) (area_after area (sampled area sample room).answer (sampled area sample room).state) area

unfoldable pub sample_room : List ℕ → Sample → List ℕ → List ℕ
sample_room area sample room = cond (is_area area) (clock.broadcast_room (state_in area) sample room) room

-- a transaction on the area's state
abbrev pub transacted : List ℕ → List ℕ → List ℕ → Bool → List ℕ → List ℕ → Transacted State
transacted area service factory read bytes room = bus.transact_of (state_in area) service factory read bytes (length room)

unfoldable pub transact_number : List ℕ → List ℕ → List ℕ → Bool → List ℕ → List ℕ → ℕ
transact_number area service factory read bytes room =
    cond (is_area area)
    (packed (transacted area service factory read bytes room).answer (transacted area service factory read bytes room).length)
    no_state

unfoldable pub transact_area : List ℕ → List ℕ → List ℕ → Bool → List ℕ → List ℕ → List ℕ
transact_area area service factory read bytes room =
    cond (is_area area)
    (area_after area (transacted area service factory read bytes room).answer (transacted area service factory read bytes room).state)
    area

unfoldable pub transact_room : List ℕ → List ℕ → List ℕ → Bool → List ℕ → List ℕ → List ℕ
transact_room area service factory read bytes room =
    cond (is_area area) (bus.reply_room (state_in area) service factory read bytes room) room
