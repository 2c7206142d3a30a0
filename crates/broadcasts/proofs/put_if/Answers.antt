use borrow.Author.Rules.{rules}
use native.Mathlib.Omega.{arith}
use Rattle.broadcasts.proofs.put_if.Goals as goal

pub returns-then-goes : goal.returns-then-goes
returns-then-goes c =
    let t = c.if-goes.true in
    record { length = simp t c.put_message.ensures.result; memory = simp t c.put_message.ensures.memory }

pub returns : goal.returns
returns c = record { length = simp c.if-goes.false (omega arith); memory = simp c.if-goes.false }
