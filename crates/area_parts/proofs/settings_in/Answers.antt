use Rattle.area_parts.proofs.settings_in.Goals as goal

pub returns : goal.returns
returns c = rw (c.numbers_at.ensures, c.number_at.ensures)
