-- `seconds::flowed` meets its contract: the signed sum.
-- Assumes nothing.
use Rattle.std.proofs.Common.{◌≡◌, pos, arith, w16, w32, SFits, to_z}
use Rattle.std.proofs.lemmas.Int.{to_z-of_z, to_z_pos}
use Rattle.seconds.proofs.Flow.{flow_fits, sum_fits}
use Rattle.seconds.proofs.flowed.Goals as goal

pub returns : goal.returns
returns c =
    let a = c.args in
    let f = flow_fits a.current a.ms c.requires.short in
    let g = sum_fits a.total a.current a.ms c.requires.short c.requires.sound in
    let i : SFits w32 c.signed_product-flow.result = record { sfits = c.signed_product-flow.type_inv } in
    let j : SFits w32 c.cast_signed.result = record { sfits = c.cast_signed.type_inv } in
    grind (arith, to_z-of_z)
