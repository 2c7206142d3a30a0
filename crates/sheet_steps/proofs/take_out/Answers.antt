use mathlib.Core.Path.{◌∙◌}
use native.Mathlib.Omega.{arith}
use lib.ListN.{length-set}
use Rattle.sheet_steps.specs.Steps.{taken_out}
use Rattle.sheet_steps.proofs.take_out.Goals as goal

pub lay-requires : goal.lay-requires
lay-requires c = simp length-set (omega (arith, (c.cut-2.auto.room ∙ c.cut.auto.room), c.requires))

pub shape_of-room : goal.shape_of-room
shape_of-room c = c.lay.auto.room ∙ simp length-set ((c.cut-2.auto.room ∙ c.cut.auto.room))

pub returns : goal.returns
unfolding taken_out
returns c = c.lay.ensures ∙ rw (c.cut-2.ensures, c.rows_size-2.ensures, c.rows_size.ensures, c.cut.ensures)
