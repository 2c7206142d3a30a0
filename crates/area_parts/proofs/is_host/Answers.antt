use mathlib.Core.Bool.{and-true, and_assoc}
use Rattle.area_parts.proofs.is_host.Goals as goal

pub returns : goal.returns
returns c = rw (c.number_at.ensures, c.number_at-2.ensures, c.number_at-3.ensures) (simp (and_assoc, and-true))
