use mathlib.Core.Path.{◌≡◌}
use Prim.Native.Nat.{◌≤◌, ◌+◌, ◌-◌, ◌*◌}
use lib.ListN.{length}
use Rattle.sheet_steps.specs.Steps.{laid_rows, laid}
use Rattle.sheet_steps.proofs.lay.Given as goal

abbrev pub invariant-loop-i : goal.invariant-loop-i
invariant-loop-i l = (l.end ≤ 1 + 4 * l.n + 255 * l.i) × (laid_rows (l.n - l.i) l.room (1 + 4 * l.i) l.end ≡ laid l.n l.initial.room) × (length l.room ≡ length l.initial.room)
