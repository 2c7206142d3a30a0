use Rattle.std.proofs.Common.{sym}
use Rattle.numbers.proofs.Numbers.{flag_is}
use Rattle.shelf_table.proofs.Laid.{figures_laid}
use Rattle.shelf_table.proofs.put_figures.Goals as goal

pub returns : goal.returns
returns c =
    let lowest = c.unwrap_or-lowest.ensures in
    figures_laid c.args.part.now c.args.t (sym c.requires)
    (rw c.from.ensures at c.put_number.ensures)
    (rw c.from-2.ensures at c.put_number-2.ensures)
    (rw c.from-3.ensures at c.put_number-3.ensures)
    (rw (c.from-4.ensures, flag_is c.is_some.result, c.is_some.ensures) at c.put_number-4.ensures)
    (rw (c.from-5.ensures, lowest) at c.put_number-5.ensures)
    (rw (c.from-6.ensures, lowest) at c.put_number-6.ensures)
    (rw (c.from-7.ensures, lowest) at c.put_number-7.ensures)
    (rw c.from-8.ensures at c.put_number-8.ensures)
