-- `snatchblock::snatchblock_remove_body` meets its contract.
-- Assumes nothing.
use Prim.Native.Nat.{◌≤◌}
use native.Mathlib.Omega.{arith}
use Rattle.rooms.proofs.Rooms.{all_bytes}
use Rattle.std.proofs.lemmas.Result.{IfOk-at_ok}
use Rattle.sheet_edit.proofs.Answers.{edit_most}
use Rattle.snatchblock.proofs.snatchblock_remove_body.Goals as goal

pub wrote-requires : goal.wrote-requires
wrote-requires c n is =
    let bytes = all_bytes c.args.room.now (λ i. grind arith) in
    omega (arith, IfOk-at_ok (λ l. l ≤ 145) is (edit_most _ _ _ _ bytes _ c.remove.ensures.value))
