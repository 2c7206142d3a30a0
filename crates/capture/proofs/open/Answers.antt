-- `open` meets its contract. Assumes nothing.
use Rattle.std.proofs.Common.{◌≡◌, ◌*◌, ◌%◌, ◌^◌, sym, ◌∙◌, arith}
use Rattle.capture.proofs.Check.{facts}
use Rattle.capture.proofs.Steps.{opened, opened-not}
use Rattle.capture.proofs.open.Goals as goal

pub returns-then-not-is_capture : goal.returns-then-not-is_capture
returns-then-not-is_capture c = opened-not _ (sym c.is_capture.ensures ∙ c.if-not-is_capture.true)

pub bounds-s-0 : goal.bounds-s-0
bounds-s-0 c = omega (arith, (facts c.args.s.now (sym c.is_capture.ensures ∙ c.if-not-is_capture.false)).table)

pub returns : goal.returns
returns c =
    let byte = c.type_inv.s 0 in
    let n = c.from-rows.result in
    let exact : n * 2 ^ 1 % 2 ^ 64 ≡ 2 * n = omega arith in
    rw exact (opened _ n (sym c.is_capture.ensures ∙ c.if-not-is_capture.false) c.from-rows.ensures)
