use Rattle.std.proofs.Common.{◌∙◌, arith}
use Rattle.names.proofs.Reading.{at-over}
use Rattle.names.proofs.+escaped_plain.Goals as goal

pub plain-returns-in-Some : goal.plain-returns-in-Some
plain-returns-in-Some t c =
    let here = c.in-Some.ensures.lookup.3 in
    at-over _ _ _ here.0 (omega arith) (λ e. c.in-Some.field-0-test.1 (here.1 0 ∙ e))
