-- Request R-7: the charger in a lent area: the number that each call gives, and the area and the room after it. Bytes that are no area
-- hold no state: that is the answer, and nothing is written. Definitions: assumes nothing.
use Rattle.std.specs.Prelude.{Bool, cond, not, ◌&&◌, List, ℕ, eqb, length}
use Rattle.charger_state.specs.Charger.{set_up_of, sound_of, current_of, sample_of}
use Rattle.charger.specs.Transact.{transact_of, reply_room}
use Rattle.charger_state.specs.declared.Charger.{Charger}
use Rattle.pack.specs.declared.Answered.{Answered}
use Rattle.commands.specs.declared.Transacted.{Transacted}
use Rattle.charger_area.specs.Area.{charger_area_of, charger_in, is_charger_area, stored_of, stored_room}
use Rattle.pack.specs.declared.Sample.{Sample}
use Rattle.packed.specs.Packed.{packed}

-- ---- set-up

-- 0; 1 for an area of another size (RULES 14.12)
abbrev pub start_number : List ℕ → ℕ
start_number area = stored_of area

-- the area of the power-on state; one of another size stays (RULES 14.3, 14.12)
abbrev pub start_area : List ℕ → Sample → List ℕ
start_area area first = stored_room (set_up_of first) area

-- ---- soundness and the current

-- the bytes are an area, and its state is sound (RULES 14.12)
abbrev pub sound_in : List ℕ → Bool
sound_in area = is_charger_area area && sound_of (charger_in area)

-- 0 and the current; 1 where the bytes hold no sound state (RULES 14.10, 14.12)
abbrev pub current_number : List ℕ → ℕ
current_number area = cond (sound_in area) (packed 0 (current_of (charger_in area))) 1

-- ---- samples and transactions

-- the area where a call stores the state that it leaves, and where it doesn't (RULES 14.12)
abbrev pub area_after : List ℕ → Bool → Charger → List ℕ
area_after area stores state = cond stores (charger_area_of state) area

-- a sample on the area's state, where the bytes hold one
abbrev pub sampled : List ℕ → Sample → Answered Charger
sampled area sample = sample_of (charger_in area) sample

-- its answer; 1 where there is none (RULES 14.12)
unfoldable pub sample_number : List ℕ → Sample → ℕ
sample_number area sample = cond (is_charger_area area) (sampled area sample).answer 1

-- the area after it: an accepted one is stored (RULES 14.12)
unfoldable pub sample_area : List ℕ → Sample → List ℕ
sample_area area sample = cond (is_charger_area area) (area_after area (eqb (sampled area sample).answer 0) (sampled area sample).state) area

-- a transaction on the area's state, where the bytes hold one
abbrev pub transacted : List ℕ → Bool → List ℕ → List ℕ → Transacted Charger
transacted area read bytes room = transact_of (charger_in area) read bytes (length room)

-- its answer with the reply's length above it; 1 where there is none (RULES 12.3, 14.12)
unfoldable pub transact_number : List ℕ → Bool → List ℕ → List ℕ → ℕ
transact_number area read bytes room =
    cond (is_charger_area area) (packed (transacted area read bytes room).answer (transacted area read bytes room).length) 1

-- the area after it: only a served write is stored (RULES 14.12)
unfoldable pub transact_area : List ℕ → Bool → List ℕ → List ℕ → List ℕ
transact_area area read bytes room =
    cond (is_charger_area area)
    (area_after area (eqb (transacted area read bytes room).answer 0 && not read) (transacted area read bytes room).state)
    area

-- the room after it (RULES 2.5, 14.12)
unfoldable pub transact_room : List ℕ → Bool → List ℕ → List ℕ → List ℕ
transact_room area read bytes room = cond (is_charger_area area) (reply_room (charger_in area) read bytes room) room
