use Rattle.std.proofs.Common.{◌≡◌, ◌+◌, ◌*◌, ◌≤◌, ◌-◌}
use Rattle.sheet.specs.Sheet.{old, rows_ok}
use Rattle.sheet.proofs.is_sheet.Given as goal

abbrev pub invariant-loop-i : goal.invariant-loop-i
invariant-loop-i l = record {
  near : l.end ≤ l.first + 255 * l.i;
  rest : rows_ok old.kinds (l.n - l.i) l.bytes (1 + 4 * l.i) l.low l.end ≡ rows_ok old.kinds l.n l.bytes 1 0 l.first;
}
