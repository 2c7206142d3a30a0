-- What a transaction is given, by its answer and by its request.
-- Assumes nothing.
use Prim.Native.Nat.{ℕ, ◌≤◌}
use mathlib.Core.Bool.{Bool, true, false, cond}
use mathlib.Core.List.{List, []}
use mathlib.Core.Path.{◌≡◌, refl, ap, ap₂, sym, ◌∙◌}
use lib.ListN.{length}
use Rattle.std.specs.Prelude.{Option, Some, None}
use Rattle.commands.proofs.Answers as commands
use Rattle.commands.specs.Answers.{Side, request_answer, side_answer, side_reply, served}
use Rattle.device.specs.Device.{asked, write_served, given_by, done_of, room_after}
use Rattle.device.specs.declared.Done.{Done}
use Rattle.device.specs.declared.Written.{Written}
use Rattle.frame.specs.declared.Request.{Request}
use Rattle.frame.specs.declared.Request.TheVariants.{Refused, Read, Write}
use Rattle.rooms.specs.Rooms.{placed}

-- a refusal serves no write
no_write : (request : Request) (answer : ℕ) → served answer ≡ false → write_served request answer ≡ None
no_write (Refused n) answer e = refl
no_write (Read command) answer e = refl
no_write (Write command word checked) answer e = ap (λ (b : Bool). cond b (Some (record { command = command; word = word })) None) e

-- what it is given, with the room
abbrev pub Gives : Side → Bool → List ℕ → List ℕ → Done → List ℕ → Type 0
Gives d read bytes room done reply = (done ≡ done_of d read bytes (length room)) × (placed reply room ≡ room_after d read bytes room)

-- a refusal has its number alone, and the room stays
pub refusal : (d : Side) (read : Bool) (bytes room : List ℕ) (n : ℕ) → side_answer d (asked d read bytes) (length room) ≡ n → served n ≡ false
    → Gives d read bytes room (record { answer = n; length = 0; write = None }) []
unfolding done_of room_after
refusal d read bytes room n e v =
    let no_reply = commands.refused_reply d bytes (asked d read bytes) n v in
    let by_answer = ap (λ (a : ℕ). given_by d bytes (asked d read bytes) a) e in
    let bare = ap₂ (λ (x : List ℕ) (w : Option Written). record { answer = n; length = length x; write = w }) no_reply (no_write (asked d read bytes) n v) in
    (sym (by_answer ∙ bare), sym (ap (λ (x : List ℕ). placed x room) (ap (λ (a : ℕ). side_reply d bytes (asked d read bytes) a) e ∙ no_reply)))

-- past answer 2 it is the request's
pub by_request : (d : Side) (read : Bool) (bytes room : List ℕ) (request : Request) → d.sound ≡ true → d.least ≤ length room → asked d read bytes ≡ request
    → Gives d read bytes room (given_by d bytes request (request_answer d request)) (side_reply d bytes request (request_answer d request))
unfolding done_of room_after
by_request d read bytes room request sound fits e =
    let number = commands.past_two d (asked d read bytes) (length room) sound fits ∙ ap (λ (q : Request). request_answer d q) e in
    (sym (ap₂ (λ (a : ℕ) (q : Request). given_by d bytes q a) number e), sym (ap (λ (x : List ℕ). placed x room) (ap₂ (λ (a : ℕ) (q : Request). side_reply d bytes q a) number e)))
