use Rattle.std.proofs.Common.{sym, ◌∙◌, arith}
use Rattle.std.proofs.lemmas.Result.{err_from_is_err_and}
use Rattle.shelf.proofs.Steps.{read_none, read_many, read-fits, read-more, read-bad, read_all}
use Rattle.shelf.proofs.report.Goals as goal

pub returns-in_err-t : goal.returns-in_err-t
returns-in_err-t c =
    let p = err_from_is_err_and c.from_residual.result c.from_residual.ensures.1 in
    rw (p.1, p.2) (sym (read_many c.args.rows.now (sym c.begin.ensures ∙ c.in_err-t.was)))

pub loop-row-init : goal.loop-row-init
loop-row-init c = read_none c.args.rows.now (sym c.begin.ensures ∙ c.in_ok-t.was)

pub step-requires : goal.step-requires
step-requires c = let l = c.loop-row in read-fits c.args.rows.now l.row-index l.invariant (omega arith)

pub returns-in_err-t-2 : goal.returns-in_err-t-2
returns-in_err-t-2 c =
    let l = c.loop-row in
    let p = err_from_is_err_and c.from_residual-in_err-t-2.result c.from_residual-in_err-t-2.ensures.1 in
    rw (p.1, p.2) (sym (read-bad c.args.rows.now l.row-index l.invariant (omega arith) (sym c.step.ensures ∙ c.in_err-t-2.was)))

pub loop-row-preserved : goal.loop-row-preserved
loop-row-preserved c =
    let l = c.loop-row in
    read-more c.args.rows.now l.row-index l.invariant (omega arith) (omega arith) (omega arith) (sym c.step.ensures ∙ c.in_ok-t-2.was)

pub returns : goal.returns
returns c = let l = c.loop-row in sym (read_all c.args.rows.now l.row-index l.invariant (omega arith))
