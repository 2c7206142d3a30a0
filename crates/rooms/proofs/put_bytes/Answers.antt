use native.Mathlib.Omega.{arith}
use Rattle.rooms.proofs.Rooms.{part_stored}
use Rattle.rooms.proofs.put_bytes.Goals as goal

pub returns : goal.returns
returns c = part_stored _ _ _ _ _ (omega arith) c.copy_from_slice.ensures.after (omega arith)
