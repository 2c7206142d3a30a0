-- `commands::row` meets its contract: the table's rule is a test at each of its entries, which antt computes.
-- Assumes nothing.
use Prim.Native.Nat.{◌<◌}
use mathlib.Core.Path.{ap, ◌∙◌}
use native.Mathlib.Omega.{arith}
use borrow.Author.Rules.{rules}
use borrow.Author.Tests.{ne_eqb, le-leb, lt-leb}
use lib.ListN.{get_or-map}
use Rattle.commands.specs.Commands.{kind_of}
use Rattle.pec.proofs.Table.{value_at}
use Rattle.pec.specs.Table.{values_below}
use Rattle.commands.proofs.row.Goals as goal

pub returns-then-command-gt63 : goal.returns-then-command-gt63
unfolding kind_of
returns-then-command-gt63 c =
    let h = c.if-command-gt63.true in
    let n = c.args.command in
    simp (
      lt-leb n 4 (omega arith),
      lt-leb n 28 (omega arith),
      lt-leb n 35 (omega arith),
      lt-leb n 63 (omega arith),
      ne_eqb n 47 (λ e. omega arith),
      le-leb 0 n (omega arith),
      le-leb 5 n (omega arith),
      le-leb 32 n (omega arith),
      le-leb 60 n (omega arith),
    )

pub returns : goal.returns
unfolding kind_of
returns c =
    let n = c.args.command in
    get_or-map kind_of (values_below 64 (λ k. k)) n 0 ∙ ap kind_of (value_at (λ k. k) 64 n ((let it : c.args.command < 64 = omega (arith, c.if-command-gt63.false) in it)))
