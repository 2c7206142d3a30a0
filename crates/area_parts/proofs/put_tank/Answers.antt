-- `area_parts::put_tank` meets its contract.
-- Assumes nothing.
use lib.ListN.{length, length-set}
use mathlib.Core.Path.{◌≡◌, sym, ◌∙◌}
use native.Mathlib.Omega.{arith}
use Rattle.area_parts.proofs.Parts.{flag_byte}
use Rattle.rooms.proofs.Rooms.{whole}
use Rattle.area_parts.specs.Parts.{tank_bytes}
use Rattle.area_parts.proofs.put_tank.Goals as goal

pub put_number-requires-2 : goal.put_number-requires-2
put_number-requires-2 c =
    simp length-set (omega (arith, c.put_numbers.auto.part, c.put_number.auto.part))

pub put_number-requires-3 : goal.put_number-requires-3
put_number-requires-3 c =
    let long : length c.put_number-2.new.part ≡ 30 =
    c.put_number-2.auto.part ∙ simp length-set (c.put_numbers.auto.part ∙ c.put_number.auto.part ∙ c.requires) in
    omega (arith, long)

pub bounds-part-29 : goal.bounds-part-29
bounds-part-29 c =
    let long : length c.put_number-3.new.part ≡ 30 =
    c.put_number-3.auto.part ∙ c.put_number-2.auto.part
    ∙ simp length-set (c.put_numbers.auto.part ∙ c.put_number.auto.part ∙ c.requires) in
    omega (arith, long)

pub shape_of-part : goal.shape_of-part
shape_of-part c =
    simp length-set (c.put_number-3.auto.part ∙ c.put_number-2.auto.part ∙ simp length-set (c.put_numbers.auto.part ∙ c.put_number.auto.part))

pub returns : goal.returns
returns c =
    rw (
      c.from-2.ensures ∙ flag_byte c.args.t.run.opened,
      c.put_number-3.ensures,
      c.put_number-2.ensures,
      c.from.ensures ∙ flag_byte c.args.t.FullyDischarged,
      c.put_numbers.ensures.memory,
      c.put_number.ensures,
    )
    (whole c.args.part.now (tank_bytes c.args.t) (sym c.requires))
