use mathlib.Core.Path.{◌≡◌}
use Prim.Native.Nat.{◌+◌, ◌-◌, ◌*◌, ◌≤◌}
use Rattle.sheet_steps.specs.Steps.{count_below}
use Rattle.sheet_steps.proofs.count.Given as goal

abbrev pub invariant-loop-i : goal.invariant-loop-i
invariant-loop-i l = (l.below ≤ l.i) × (l.below + count_below (l.n - l.i) l.sheet (1 + 4 * l.i) l.tag ≡ count_below l.n l.sheet 1 l.tag)
