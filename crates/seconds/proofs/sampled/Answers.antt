-- `seconds::sampled` meets its contract: the begun second goes on, or is complete.
-- Assumes nothing.
use Rattle.std.proofs.Common.{arith, w32, to_z}
use Rattle.seconds.proofs.After.{early, late}
use Rattle.recent.proofs.Soundness.{recent_facts}
use Rattle.recent.proofs.Totals.{can_longer}
use Rattle.seconds.proofs.sampled.Goals as goal

pub overflow_sub-lacking : goal.overflow_sub-lacking
overflow_sub-lacking c = let f = recent_facts c.args.r c.requires in omega arith

pub flowed-requires-clause-sound : goal.flowed-requires-clause-sound
flowed-requires-clause-sound c =
    let f = recent_facts c.args.r c.requires in can_longer c.args.r.begun 1000 (to_z w32 c.args.r.total) (omega arith) f.total

pub flowed-full-requires-clause-sound : goal.flowed-full-requires-clause-sound
flowed-full-requires-clause-sound c =
    let f = recent_facts c.args.r c.requires in can_longer c.args.r.begun 1000 (to_z w32 c.args.r.total) (omega arith) f.total

pub returns-then-elapsed-lacking : goal.returns-then-elapsed-lacking
returns-then-elapsed-lacking c =
    let a = c.args in
    let b = c.from-begun.ensures in
    rw c.from-begun.ensures (early a.r a.current a.elapsed c.flowed.result (omega arith) c.flowed.ensures)

pub overflow_add-r : goal.overflow_add-r
overflow_add-r c = let f = recent_facts c.args.r c.requires in omega arith

pub overflow_add-r-2 : goal.overflow_add-r-2
overflow_add-r-2 c = let f = recent_facts c.args.r c.requires in omega arith

pub returns : goal.returns
returns c =
    let a = c.args in
    let b = c.from-begun.ensures in
    rw c.from-begun.ensures
    (late a.r a.current a.elapsed c.shifted.result c.min.result c.flowed-full.result c.flowed-whole.result c.flowed-2.result (omega arith)
    (rw c.from-begun.ensures at c.flowed-full.ensures) c.flowed-whole.ensures (rw c.from-begun.ensures at c.shifted.ensures)
    (omega (arith, c.min.ensures)) (rw c.from-begun.ensures at c.flowed-2.ensures))
