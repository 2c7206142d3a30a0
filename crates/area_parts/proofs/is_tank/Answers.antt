use mathlib.Core.Bool.{and-true}
use Rattle.area_parts.proofs.is_tank.Goals as goal

pub returns : goal.returns
returns c = rw (c.number_at.ensures, c.number_at-2.ensures) (simp and-true)
