-- The figures are those of the first rows, of which none is bad.
use Rattle.shelf.proofs.Steps.{Read}
use Rattle.shelf_table.specs.Table.{rows_in}
use Rattle.shelf_table.proofs.report_in.Given as goal

abbrev pub invariant-loop-i : goal.invariant-loop-i
invariant-loop-i l = Read (rows_in l.table) l.i l.t
