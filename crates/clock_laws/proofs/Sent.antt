-- What a sample sends: five bytes for each message, four in plain, at most 20 and 16, and the rest of the room stays.
-- Assumes nothing.
use Prim.Native.Nat.{ℕ, ◌*◌, ◌≤◌}
use mathlib.Core.Bool.{Bool, true, false, cond, not}
use mathlib.Core.List.{List}
use mathlib.Core.Path.{◌≡◌, refl}
use native.Mathlib.Omega.{arith}
use lib.Dec.{ltb}
use lib.ListN.{length, drop}
use Rattle.broadcasts.proofs.Sending.{size_each, at_most_room}
use Rattle.broadcasts.specs.Broadcasts.{broadcast_of, least_room}
use Rattle.frame.specs.Broadcasts.{message_size}
use Rattle.clock.specs.Broadcast.{sample_of, served_sample, refused_sample, broadcast_room}
use Rattle.clock.specs.Sample.{moved_of}
use Rattle.clock_laws.specs.Promises.{BytesEach, BytesAtMost, RestStays}
use Rattle.clock.proofs.Outcome.{outcome}
use Rattle.rooms.proofs.Rooms.{placed_rest}
use Rattle.rooms.specs.Rooms.{placed}
use Rattle.pack.specs.Sound.{sound_of}
use Rattle.pack.specs.declared.Sample.{Sample}
use Rattle.pack.specs.declared.State.{State}

-- so many bytes for each message
pub bytes_each : BytesEach
unfolding moved_of
bytes_each s x n =
    outcome (λ r. r.length ≡ message_size s.pack.settings.plain * r.messages) s x n (omega arith) (omega arith) (λ h. size_each (moved_of s.pack x))

-- and at most so many in all
pub bytes_at_most : BytesAtMost
unfolding moved_of
bytes_at_most s x n = outcome (λ r. r.length ≤ least_room s.pack.settings.plain) s x n (omega arith) (omega arith) (λ h. at_most_room (moved_of s.pack x))

-- the bytes past them stay, by the two tests
stays : (s : State) (x : Sample) (room : List ℕ) (unsound small : Bool)
    → drop (cond unsound (refused_sample 1 s) (cond small (refused_sample 2 s) (served_sample s x))).length
    (cond unsound room (cond small room (placed (broadcast_of (moved_of s.pack x)) room)))
    ≡ drop (cond unsound (refused_sample 1 s) (cond small (refused_sample 2 s) (served_sample s x))).length room
stays s x room true small = refl
stays s x room false true = refl
stays s x room false false = placed_rest (broadcast_of (moved_of s.pack x)) room

-- bytes past them in the room stay
pub rest_stays : RestStays
unfolding sample_of broadcast_room
rest_stays s x room = stays s x room (not (sound_of s)) (ltb (length room) (least_room s.pack.settings.plain))
