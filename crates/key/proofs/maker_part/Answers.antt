use native.Mathlib.Omega.{arith}
use lib.Seq.{length-take-le}
use mathlib.Core.Path.{sym}
use Rattle.key.proofs.Keys.{names_found}
use Rattle.key.proofs.maker_part.Goals as goal

pub slice_bounds-result-end : goal.slice_bounds-result-end
slice_bounds-result-end c =
    let n = names_found c.args.key.now c.in-Ok.found c.in-Ok.ensures in
    sym (length-take-le c.in-Ok.found.maker_end c.args.key.now (omega (arith, n)))

pub returns-in-Ok-clause-result_value : goal.returns-in-Ok-clause-result_value
returns-in-Ok-clause-result_value c = (names_found c.args.key.now c.in-Ok.found c.in-Ok.ensures).maker_is
