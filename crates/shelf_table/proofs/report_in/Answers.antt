use Rattle.std.proofs.Common.{◌≡◌, ◌*◌, ◌%◌, sym, ◌∙◌, arith}
use Rattle.std.proofs.lemmas.Result.{err_from_is_err_and}
use Rattle.shelf_table.proofs.Rows.{none-read, too-many, all-read, turn-fits, turn, turn-bad}
use Rattle.shelf_table.proofs.report_in.Goals as goal

pub returns-in_err-t : goal.returns-in_err-t
returns-in_err-t c =
    let p = err_from_is_err_and c.from_residual.result c.from_residual.ensures.1 in
    rw (p.1, p.2) (sym (too-many c.args.table.now (sym c.begin.ensures ∙ c.in_err-t.was)))

pub loop-i-init : goal.loop-i-init
loop-i-init c = none-read c.args.table.now (sym c.begin.ensures ∙ c.in_ok-t.was)

pub step-requires : goal.step-requires
step-requires c = let l = c.loop-i in turn-fits c.args.table.now l.i l.invariant (omega arith)

pub returns-in_err-t-2 : goal.returns-in_err-t-2
returns-in_err-t-2 c =
    let l = c.loop-i in
    let p = err_from_is_err_and c.from_residual-in_err-t-2.result c.from_residual-in_err-t-2.ensures.1 in
    let e : l.i * 8 % 18446744073709551616 ≡ 8 * l.i = omega arith in
    let bad = turn-bad c.args.table.now l.i l.invariant (omega arith) (rw e at c.number_at-remaining.ensures) (rw e at c.number_at-full.ensures) (rw e at c.number_at-design.ensures) (sym c.step.ensures ∙ c.in_err-t-2.was) in
    rw (p.1, p.2) (sym bad)

pub loop-i-preserved : goal.loop-i-preserved
loop-i-preserved c =
    let l = c.loop-i in
    let e : l.i * 8 % 18446744073709551616 ≡ 8 * l.i = omega arith in
    turn c.args.table.now l.i l.invariant (omega arith) (rw e at c.number_at-remaining.ensures) (rw e at c.number_at-full.ensures) (rw e at c.number_at-design.ensures) (omega arith) (omega arith) (sym c.step.ensures ∙ c.in_ok-t-2.was)

pub returns : goal.returns
returns c = let l = c.loop-i in sym (all-read c.args.table.now l.i l.invariant (omega arith))
