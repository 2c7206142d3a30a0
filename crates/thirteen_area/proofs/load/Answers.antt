-- `thirteen_area::load` meets its contract.
-- Assumes nothing.
use mathlib.Core.Path.{ap, ◌∙◌, sym}
use native.Mathlib.Omega.{arith}
use Rattle.rooms.proofs.Rooms.{all_bytes}
use Rattle.thirteen_area.proofs.Whole.{area_size, held}
use Rattle.thirteen_area.specs.Area.{thirteen_area_of, loaded_of}
use Rattle.thirteen_area.proofs.load.Goals as goal

pub state_in-state-requires : goal.state_in-state-requires
state_in-state-requires c = area_size c.args.area.now (sym c.is_area.ensures ∙ c.if-is_area.true)

pub returns-then-is_area : goal.returns-then-is_area
unfolding loaded_of
returns-then-is_area c =
    let area = c.args.area.now in
    let bytes = all_bytes area (λ i. omega (arith, c.type_inv.area i)) in
    let is = sym c.is_area.ensures ∙ c.if-is_area.true in
    record { is = rw (c.state_in-state.ensures, is); back = λ z. ap thirteen_area_of c.state_in-state.ensures ∙ held area bytes is }

pub returns : goal.returns
unfolding loaded_of
returns c =
    let other = sym c.is_area.ensures ∙ c.if-is_area.false in
    record { is = rw (c.zero-none.ensures, other); back = λ z. absurd (omega (arith, z)) }
