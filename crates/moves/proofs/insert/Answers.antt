use mathlib.Core.Path.{◌∙◌}
use lib.Seq.{slice}
use Rattle.moves.proofs.Stores.{sets_before}
use Rattle.moves.proofs.insert.Goals as goal

pub returns : goal.returns
returns c =
    let a = c.args in
    c.put_bytes.ensures
    ∙ rw c.move_up.ensures (sets_before a.room.now a.at a.bytes.now (slice a.at a.end a.room.now))
