-- `thirteen::transact` meets its contract: it is any side's transaction, and leaves its error code.
-- Assumes nothing.
use Prim.Native.Nat.{ℕ}
use mathlib.Core.Bool.{Bool}
use mathlib.Core.List.{List}
use mathlib.Core.Path.{◌≡◌, ap, ◌∙◌}
use lib.ListN.{length}
use Rattle.device.specs.Device.{done_of, room_after}
use Rattle.device.specs.declared.Done.{Done}
use Rattle.thirteen.specs.Transact.{thirteen_side, left_by, transact_answer, transact_reply, transact_of, reply_room}
use Rattle.thirteen_pack.specs.declared.ThirteenState.{ThirteenState}
use Rattle.commands.specs.declared.Transacted.{Transacted}
use Rattle.thirteen.proofs.transact.Goals as goal

-- an answer, the state left and the number of reply bytes
abbrev transacted : ℕ → ThirteenState → ℕ → Transacted ThirteenState
transacted answer state length = record { answer = answer; state = state; length = length }

-- any side's transaction is the pack's
as_given : (s : ThirteenState) (read : Bool) (bytes : List ℕ) (room : ℕ) (done : Done) (state : ThirteenState) → done ≡ done_of (thirteen_side s) read bytes room → state ≡ left_by s done.answer
    → transacted done.answer state done.length ≡ transact_of s read bytes room
unfolding done_of transact_answer transact_reply transact_of
as_given s read bytes room done state e f =
    ap (λ (x : ThirteenState). transacted done.answer x done.length) f
    ∙ ap (λ (x : Done). transacted x.answer (left_by s x.answer) x.length) e

pub returns : goal.returns
unfolding room_after transact_answer transact_reply reply_room
returns c =
    let a = c.args in
    let done = c.transact-done.ensures in
    record { result = as_given a.s a.read a.bytes.now (length a.room.now) _ _ done.result c.left.ensures; memory = done.memory }
