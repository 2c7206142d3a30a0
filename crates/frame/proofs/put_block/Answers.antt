-- `frame::put_block` meets its contract: count, bytes and PEC are stores in a row.
-- Assumes nothing.
use mathlib.Core.Path.{◌≡◌, ap, ◌∙◌}
use mathlib.Core.List.{List, [], ◌∷◌, ◌++◌}
use Prim.Native.Nat.{ℕ, ◌+◌}
use native.Mathlib.Omega.{arith}
use lib.ListN.{length, length-set}
use lib.Seq.{sets, length-sets}
use Rattle.pec.specs.Pec.{pec_from}
use Rattle.rooms.proofs.Rooms.{then, front}
use Rattle.frame.specs.Transactions.{block_body, reply_of}
use Rattle.frame.proofs.Replies.{reply_length, block_check}
use Rattle.frame.proofs.put_block.Goals as goal

pub put_bytes-requires : goal.put_bytes-requires
put_bytes-requires c = simp length-set (omega arith)

pub bounds-room-last : goal.bounds-room-last
bounds-room-last c =
    let it : c.put_bytes.new.room ≡ sets c.args.room.now 0 (block_body c.args.text.now) = c.put_bytes.ensures in
    omega (arith, ap (λ (l : List ℕ). length l) it, length-sets c.args.room.now 0 (block_body c.args.text.now))

pub shape_of-room : goal.shape_of-room
shape_of-room c = length-set c.put_bytes.new.room _ _ ∙ ap (λ (l : List ℕ). length l) ((c.put_bytes.ensures)) ∙ length-sets ((c.args.room.now)) 0 (block_body ((c.args.text.now)))

pub returns : goal.returns
unfolding reply_of
returns c =
    let request = c.args.request.now in
    let n = length ((c.args.text.now)) in
    let count = c.pec_from.ensures ∙ ap (λ (p : ℕ). pec_from p (n ∷ [])) c.pec-start.ensures in
    let check = c.pec_from-check.ensures ∙ ap (λ (p : ℕ). pec_from p ((c.args.text.now))) count ∙ block_check request n ((c.args.text.now)) in
    let long = reply_length request (block_body ((c.args.text.now))) in record {
      result = omega (arith, long);
      memory = then ((c.args.room.now)) 0 (n + 1) (block_body ((c.args.text.now))) (c.pec_from-check.result ∷ []) ((c.put_bytes.ensures)) (omega arith)
          ∙ ap (λ (p : ℕ). sets ((c.args.room.now)) 0 (block_body ((c.args.text.now)) ++ p ∷ [])) check
          ∙ front (reply_of request (block_body ((c.args.text.now)))) ((c.args.room.now)) (omega (arith, long));
    }
