-- The bodies' tests are the choice's.
-- Assumes nothing.
use Rattle.std.proofs.Common.{sym}
use Rattle.sheet_writer.specs.Writing.{given}
use Rattle.sheet_writer.proofs.Laid.{choice-short}
use Rattle.sheet_writer.proofs.all_short.Goals as goal

pub returns : goal.returns
returns c =
    let a = c.args in
    rw (c.short_body.ensures, c.short_body-2.ensures, c.short_body-3.ensures, c.short_body-4.ensures)
    (sym (choice-short (given a.body20) (given a.body21) (given a.body22) (given a.body23)))
