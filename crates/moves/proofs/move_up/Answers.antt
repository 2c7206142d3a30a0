use native.Mathlib.Omega.{arith}
use Rattle.moves.proofs.Stores.{copied}
use Rattle.moves.proofs.move_up.Goals as goal

pub returns : goal.returns
returns c = copied c.args.room.now c.args.from c.args.to _ (omega arith) (omega arith) (omega arith) c.copy_within.ensures.after
