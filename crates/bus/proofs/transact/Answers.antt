-- `bus::transact` meets its contract: it is any side's transaction, and its write.
-- Assumes nothing.
use Prim.Native.Nat.{ℕ}
use mathlib.Core.Bool.{Bool, true, false, cond}
use mathlib.Core.List.{List}
use mathlib.Core.Path.{◌≡◌, refl, ap, ◌∙◌}
use lib.ListN.{length}
use Rattle.bus.specs.Transact.{pack_side, pack_after, pack_left, left_by, outcome, asked, transact_answer, transact_reply, transact_of, reply_room}
use Rattle.commands.specs.Answers.{side_reply, served}
use Rattle.commands.specs.declared.Transacted.{Transacted}
use Rattle.device.specs.Device.{write_served, done_of, room_after}
use Rattle.device.specs.declared.Done.{Done}
use Rattle.frame.specs.declared.Request.{Request}
use Rattle.frame.specs.declared.Request.TheVariants.{Refused, Read, Write}
use Rattle.pack.specs.declared.Pack.{Pack}
use Rattle.pack.specs.declared.State.{State}
use Rattle.std.specs.Prelude.{Some, None}
use Rattle.written.specs.Written.{pack_written}
use Rattle.bus.proofs.transact.Goals as goal

-- the write that is served makes what is left
left_after : (p : Pack) (request : Request) (answer : ℕ) → pack_left p (write_served request answer) ≡ pack_after p request answer
left_after p (Refused n) answer = refl
left_after p (Read command) answer = refl
left_after p (Write command word checked) answer = go (served answer)
  where
    go : (b : Bool) → pack_left p (cond b (Some (record { command = command; word = word })) None) ≡ cond b (pack_written p command word) p
    go true = refl
    go false = refl

-- an answer, the state left and the number of reply bytes
abbrev transacted : ℕ → State → ℕ → Transacted State
transacted answer state length = record { answer = answer; state = state; length = length }

-- so any side's transaction is the pack's
as_given : (s : State) (service factory : List ℕ) (read : Bool) (bytes : List ℕ) (room : ℕ) (done : Done) (state : State) → done ≡ done_of (pack_side s service factory) read bytes room
    → state ≡ left_by s done.answer done.write → transacted done.answer state done.length ≡ transact_of s service factory read bytes room
unfolding done_of transact_answer transact_of
as_given s service factory read bytes room done state e f =
    let answer = transact_answer s service factory read bytes room in
    ap (λ (x : State). transacted done.answer x done.length) f
    ∙ ap (λ (x : Done). transacted x.answer (left_by s x.answer x.write) x.length) e
    ∙ ap (λ (x : Pack). outcome s answer x (length (side_reply (pack_side s service factory) bytes (asked read bytes) answer))) (left_after s.pack (asked read bytes) answer)

pub returns : goal.returns
unfolding room_after transact_answer transact_reply reply_room
returns c =
    let a = c.args in
    let done = c.transact-done.ensures in
    record { result = as_given a.s a.service.now a.factory.now a.read a.bytes.now (length a.room.now) _ _ done.result c.left.ensures; memory = done.memory }
