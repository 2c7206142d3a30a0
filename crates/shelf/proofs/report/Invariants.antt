-- The figures are those of the first rows, of which none is bad.
use Rattle.shelf.proofs.Steps.{Read}
use Rattle.shelf.proofs.report.Given as goal

abbrev pub invariant-loop-row : goal.invariant-loop-row
invariant-loop-row l = Read l.rows l.row-index l.t
