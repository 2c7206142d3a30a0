-- With the first numbers read, the rest of them makes all.
use Rattle.std.proofs.Common.{◌≡◌, ◌+◌, ◌*◌}
use Rattle.numbers.proofs.Stores.{Reading}
use Rattle.numbers.proofs.numbers_at.Given as goal

abbrev pub invariant-loop-value : goal.invariant-loop-value
invariant-loop-value g l =
    record {
      next : l.place ≡ l.at + g.T.Number.WIDTH * l.value-index;
      reading : Reading g.T.Number.of g.T.Number.WIDTH l.part l.at l.initial.values l.values l.value-index;
    }
