use Rattle.area_parts.proofs.host_in.Goals as goal

pub returns : goal.returns
returns c = rw (c.numbers_at.ensures, c.number_at.ensures, c.number_at-2.ensures, c.number_at-3.ensures)
