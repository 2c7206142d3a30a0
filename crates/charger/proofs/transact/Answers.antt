-- `charger::transact` meets its contract: it is any side's transaction, and its write.
-- Assumes nothing.
use Prim.Native.Nat.{ℕ}
use mathlib.Core.Bool.{Bool, true, false, cond}
use mathlib.Core.List.{List}
use mathlib.Core.Path.{◌≡◌, refl, ap, ◌∙◌}
use lib.ListN.{length}
use Rattle.charger.specs.Transact.{charger_side, charger_after, left_by, outcome, asked, transact_answer, transact_reply, transact_of, reply_room}
use Rattle.charger_state.specs.declared.Charger.{Charger}
use Rattle.charger_written.specs.Written.{charger_written}
use Rattle.commands.specs.Answers.{side_reply, served}
use Rattle.device.specs.Device.{write_served, done_of, room_after}
use Rattle.device.specs.declared.Done.{Done}
use Rattle.frame.specs.declared.Request.{Request}
use Rattle.frame.specs.declared.Request.TheVariants.{Refused, Read, Write}
use Rattle.std.specs.Prelude.{Some, None}
use Rattle.charger.proofs.transact.Goals as goal

-- the write that is served makes what is left
left_after : (s : Charger) (request : Request) (answer : ℕ) → left_by s (write_served request answer) ≡ charger_after s request answer
left_after s (Refused n) answer = refl
left_after s (Read command) answer = refl
left_after s (Write command word checked) answer = go (served answer)
  where
    go : (b : Bool) → left_by s (cond b (Some (record { command = command; word = word })) None) ≡ cond b (charger_written s command word) s
    go true = refl
    go false = refl

-- so any side's transaction is the charger's
as_given : (s : Charger) (read : Bool) (bytes : List ℕ) (room : ℕ) (done : Done) (state : Charger) → done ≡ done_of (charger_side s) read bytes room → state ≡ left_by s done.write
    → outcome done.answer state done.length ≡ transact_of s read bytes room
unfolding done_of transact_answer transact_of
as_given s read bytes room done state e f =
    let answer = transact_answer s read bytes room in
    ap (λ (x : Charger). outcome done.answer x done.length) f
    ∙ ap (λ (x : Done). outcome x.answer (left_by s x.write) x.length) e
    ∙ ap (λ (x : Charger). outcome answer x (length (side_reply (charger_side s) bytes (asked read bytes) answer))) (left_after s (asked read bytes) answer)

pub returns : goal.returns
unfolding room_after transact_answer transact_reply reply_room
returns c =
    let a = c.args in
    let done = c.transact-done.ensures in
    record { result = as_given a.s a.read a.bytes.now (length a.room.now) _ _ done.result c.left.ensures; memory = done.memory }
