-- The pack in a lent area, call by call: what is proved of its states holds of its areas.
-- Assumes nothing.
use Rattle.std.specs.Prelude.{ℕ, Bool, true, List, map, ◌≡◌, length, drop}
use Rattle.area.specs.Area.{area_of}
use Rattle.bus.specs.Transact.{reply_room}
use Rattle.calls.specs.Calls.{sample_number, sample_area, sample_room, transact_number, transact_area, transact_room}
use Rattle.chatter.specs.Histories.{run_of}
use Rattle.chatter.specs.Struck.{Struck}
use Rattle.clock.specs.Broadcast.{broadcast_room}
use Rattle.pack.specs.Fits.{Fits, SampleFits}
use Rattle.pack.specs.Sound.{sound_of}
use Rattle.pack.specs.declared.Sample.{Sample}
use Rattle.pack.specs.declared.State.{State}
use Rattle.packed.specs.Packed.{packed}
use Rattle.runs.specs.Events.{Event, sample, call, step, run, Throughout, EventFits, answer_to}
use Rattle.runs.specs.Since.{from_set_up}
use Rattle.runs.specs.Struck.{length_to, pack_party}
use Rattle.start.specs.Fits.{SetupFits}
use Rattle.start.specs.SetUp.{set_up_of}
use Rattle.start.specs.declared.Setup.{Setup}

-- a firmware's call with all that it lends beside the area: it brings a sample and a broadcast room, or hands over both sheets, mark, bytes and a reply room
pub data Lent : Type 0 where
  brings : Sample → List ℕ → Lent
  hands : List ℕ → List ℕ → Bool → List ℕ → List ℕ → Lent

-- as an event of the pack's histories, which know a room by its length
abbrev pub event_of : Lent → Event
event_of (brings x room) = sample x (length room)
event_of (hands service factory read bytes room) =
    call (record { service = service; factory = factory; read = read; bytes = bytes; room = length room })

-- ---- on an area, by the definitions of the entries for C

-- the area after a call
abbrev pub area_step : List ℕ → Lent → List ℕ
area_step area (brings x room) = sample_area area x room
area_step area (hands service factory read bytes room) = transact_area area service factory read bytes room

-- after calls, the oldest first
abbrev pub area_run : List ℕ → List Lent → List ℕ
area_run area ls = run_of area_step area ls

-- the number that a call gives
abbrev pub number_to : List ℕ → Lent → ℕ
number_to area (brings x room) = sample_number area x room
number_to area (hands service factory read bytes room) = transact_number area service factory read bytes room

-- the lent room after it, on an area and on a state
abbrev pub room_to : List ℕ → Lent → List ℕ
room_to area (brings x room) = sample_room area x room
room_to area (hands service factory read bytes room) = transact_room area service factory read bytes room

abbrev pub room_by : State → Lent → List ℕ
room_by s (brings x room) = broadcast_room s x room
room_by s (hands service factory read bytes room) = reply_room s service factory read bytes room

-- ---- what is promised

-- a call on the area of a state: the area is that of the state left, the number is its answer and length, the room is the state's (RULES 12.1, 12.3)
pub record Follows (s : State) (l : Lent) : Type 0 where
  pub area : area_step (area_of s) l ≡ area_of (step s (event_of l))
  pub number : number_to (area_of s) l ≡ packed (answer_to s (event_of l)) (length_to s (event_of l))
  pub room : room_to (area_of s) l ≡ room_by s l

-- so is every call, if the state is sound and its fields hold what their types let them hold
abbrev pub CallFollows : Type 0
CallFollows = (s : State) (l : Lent) → sound_of s ≡ true → Fits s → Follows s l

-- and every history: the area at its end is that of the state at its end, so that the theorems over histories hold of areas
abbrev pub AreasFollow : Type 0
AreasFollow =
    (s : State) (ls : List Lent) → sound_of s ≡ true → Fits s → Throughout EventFits s (map event_of ls)
    → area_run (area_of s) ls ≡ area_of (run s (map event_of ls))

-- request R-11 in areas, where what set-up and the calls bring holds what its types let it hold: since a served set-up, with any idle calls struck out,
-- every byte at the end is the same but the first, the error code (RULES 16.2)
abbrev pub ChatterInAreas : Type 0
ChatterInAreas =
    (u : Setup) (first : Sample) (ls ks : List Lent) → (set_up_of u first).answer ≡ 0 → SetupFits u → SampleFits first
    → Throughout EventFits (from_set_up u first) (map event_of ls) → Struck pack_party (from_set_up u first) (map event_of ls) (map event_of ks)
    → drop 1 (area_run (area_of (from_set_up u first)) ls) ≡ drop 1 (area_run (area_of (from_set_up u first)) ks)

-- and whatever call comes next gives the same number (RULES 16.4)
abbrev pub NextNumberIsSame : Type 0
NextNumberIsSame =
    (u : Setup) (first : Sample) (ls ks : List Lent) (l : Lent) → (set_up_of u first).answer ≡ 0 → SetupFits u → SampleFits first
    → Throughout EventFits (from_set_up u first) (map event_of ls) → Struck pack_party (from_set_up u first) (map event_of ls) (map event_of ks)
    → number_to (area_run (area_of (from_set_up u first)) ls) l ≡ number_to (area_run (area_of (from_set_up u first)) ks) l
