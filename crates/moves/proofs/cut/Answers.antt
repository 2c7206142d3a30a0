use mathlib.Core.Path.{◌∙◌}
use native.Mathlib.Omega.{arith}
use Rattle.moves.proofs.Stores.{cut_is}
use Rattle.moves.proofs.cut.Goals as goal

pub returns : goal.returns
returns c =
    let a = c.args in
    c.fill_zero.ensures ∙ cut_is a.room.now a.end a.at a.by (omega arith) (omega arith) c.move_down.ensures
