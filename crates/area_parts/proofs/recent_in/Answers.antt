use Rattle.area_parts.specs.Parts.{recent_in}
use Rattle.area_parts.proofs.recent_in.Goals as goal

pub returns : goal.returns
unfolding recent_in
returns c =
    rw (
      c.number_at-3.ensures,
      c.number_at-2.ensures,
      c.from.ensures,
      c.number_at.ensures,
      c.numbers_at.ensures,
    )
