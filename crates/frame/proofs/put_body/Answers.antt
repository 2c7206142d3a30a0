-- `frame::put_body` meets its contract: bytes and PEC are stores in a row.
-- Assumes nothing.
use mathlib.Core.Path.{ap, ◌∙◌}
use mathlib.Core.List.{List, [], ◌∷◌, ◌++◌}
use Prim.Native.Nat.{ℕ}
use native.Mathlib.Omega.{arith}
use lib.ListN.{length, length-set}
use lib.Seq.{sets, length-sets}
use Rattle.pec.specs.Pec.{pec_from}
use Rattle.rooms.proofs.Rooms.{then, front}
use Rattle.frame.specs.Transactions.{reply_of}
use Rattle.frame.proofs.Replies.{reply_length, body_check}
use Rattle.frame.proofs.put_body.Goals as goal

pub bounds-room-n : goal.bounds-room-n
bounds-room-n c = simp ((c.put_bytes.ensures), length-sets) (omega arith)

pub shape_of-room : goal.shape_of-room
shape_of-room c = length-set c.put_bytes.new.room _ _ ∙ ap (λ (l : List ℕ). length l) ((c.put_bytes.ensures)) ∙ length-sets ((c.args.room.now)) 0 ((c.args.body.now))

pub returns : goal.returns
unfolding reply_of
returns c =
    let request = c.args.request.now in
    let check = c.pec_from-check.ensures ∙ ap (λ (p : ℕ). pec_from p ((c.args.body.now))) c.pec.ensures ∙ body_check request ((c.args.body.now)) in
    let long = reply_length request ((c.args.body.now)) in record {
      result = omega (arith, long);
      memory = then ((c.args.room.now)) 0 (length ((c.args.body.now))) ((c.args.body.now)) (c.pec_from-check.result ∷ []) ((c.put_bytes.ensures)) (omega arith)
          ∙ ap (λ (p : ℕ). sets ((c.args.room.now)) 0 ((c.args.body.now) ++ p ∷ [])) check
          ∙ front (reply_of request ((c.args.body.now))) ((c.args.room.now)) (omega (arith, long));
    }
