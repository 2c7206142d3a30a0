use mathlib.Core.Bool.{and-true}
use Rattle.area_parts.proofs.is_settings.Goals as goal

pub returns : goal.returns
returns c = rw c.number_at.ensures (simp and-true)
