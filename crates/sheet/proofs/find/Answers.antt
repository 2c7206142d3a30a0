use Rattle.std.proofs.Common.{◌∙◌, arith}
use Rattle.sheet.specs.Sheet.{old}
use Rattle.sheet.proofs.Rows.{contents}
use Rattle.sheet.proofs.Names.{first_is, hit, miss, no_row, find_start}
use Rattle.sheet.proofs.Shift.{four_each}
use Rattle.sheet.proofs.find.Goals as goal

pub bounds-sheet-0 : goal.bounds-sheet-0
bounds-sheet-0 c = (contents old _ c.requires).some

pub loop-i-init : goal.loop-i-init
loop-i-init c =
    let n = c.from-i-end.ensures ∙ first_is _ c.requires in
    record { within = omega (arith, n, (contents old _ c.requires).fits); rest = find_start _ _ _ n }

pub returns-then-sheet-at : goal.returns-then-sheet-at
returns-then-sheet-at c =
    let e = four_each c.loop-i.i (omega (arith, c.loop-i.invariant.within)) in
    hit c.args.sheet.now c.args.tag _ _ c.loop-i.invariant.rest _ _ c.loop-i-test.true (rw e at c.if-sheet-at.true) (rw e at c.offset-start.ensures.0) (let k = rw e at c.from.ensures in omega (arith, k))

pub loop-i-preserved : goal.loop-i-preserved
loop-i-preserved c =
    record { within = c.loop-i.invariant.within; rest = miss _ _ _ _ c.loop-i.invariant.rest c.loop-i-test.true (rw (four_each c.loop-i.i (omega (arith, c.loop-i.invariant.within))) at c.if-sheet-at.false) }

pub returns : goal.returns
returns c = no_row _ _ _ _ c.loop-i.invariant.rest c.loop-i-test.false
