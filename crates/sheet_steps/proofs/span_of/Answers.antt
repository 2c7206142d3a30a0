use Rattle.sheet_steps.specs.Steps.{span_in}
use Rattle.sheet_steps.proofs.span_of.Goals as goal

pub returns : goal.returns
unfolding span_in
returns c = rw (c.place-to.ensures, c.place-from.ensures, c.count-past.ensures, c.count-row.ensures)
