use Rattle.std.proofs.Common.{◌≡◌, ◌+◌, ◌*◌, ◌≤◌, ◌-◌, length}
use Rattle.sheet.specs.Block.{find_row, find_in}
use Rattle.sheet.proofs.find.Given as goal

abbrev pub invariant-loop-i : goal.invariant-loop-i
invariant-loop-i l = record {
  within : 1 + 4 * l.i-end ≤ length l.sheet;
  rest : find_row (l.i-end - l.i) l.sheet (1 + 4 * l.i) l.tag ≡ find_in l.sheet l.tag;
}
