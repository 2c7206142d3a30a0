use mathlib.Core.Path.{◌∙◌}
use native.Mathlib.Omega.{arith}
use lib.ListN.{length-set}
use Rattle.sheet_steps.specs.Steps.{put_in}
use Rattle.sheet_steps.proofs.put_in.Goals as goal

pub lay-requires : goal.lay-requires
lay-requires c = simp length-set (omega (arith, (c.insert-2.auto.room ∙ c.insert.auto.room), c.requires))

pub shape_of-room : goal.shape_of-room
shape_of-room c = c.lay.auto.room ∙ simp length-set ((c.insert-2.auto.room ∙ c.insert.auto.room))

pub returns : goal.returns
unfolding put_in
returns c = c.lay.ensures ∙ rw (c.insert-2.ensures, c.rows_size.ensures, c.insert.ensures)
