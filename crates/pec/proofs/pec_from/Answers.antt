-- `pec::pec_from` meets its contract. The table's rule: antt computes the 256 remainders, and they are the table; the law `carried` makes that the rule of each entry.
-- Assumes nothing.
use Rattle.std.proofs.Common.{refl, arith}
use Rattle.pec.specs.Pec.{bit_step, byte_step}
use Rattle.pec.proofs.Loops.{pec_next, pec_end}
use Rattle.pec.proofs.Table.{carried}
use Rattle.pec.proofs.pec_from.Goals as goal

pub entry-acc-requires : goal.entry-acc-requires
unfolding byte_step bit_step
entry-acc-requires c = carried _ refl

pub loop-b-preserved : goal.loop-b-preserved
loop-b-preserved c =
    let at = c.loop-b in
    pec_next _ at.b-index at.acc _ _ (omega arith) c.entry-acc.ensures at.invariant

pub returns : goal.returns
returns c = pec_end _ c.loop-b.b-index _ _ (omega arith) c.loop-b.invariant
