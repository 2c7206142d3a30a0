-- With the first numbers written, the rest of them makes all.
use Rattle.std.proofs.Common.{◌≡◌, ◌+◌, ◌*◌, ◌^◌, map, take}
use Rattle.recent.specs.Fits.{Below}
use Rattle.numbers.proofs.Stores.{Writing}
use Rattle.numbers.proofs.put_numbers.Given as goal

abbrev pub invariant-loop-value : goal.invariant-loop-value
invariant-loop-value g l =
    record {
      next : l.place ≡ l.at + g.T.Number.WIDTH * l.value-index;
      writing : Writing g.T.Number.WIDTH l.initial.part l.at (map g.T.Number.value l.values) l.part l.value-index;
      fit : Below (256 ^ g.T.Number.WIDTH) (take l.value-index (map g.T.Number.value l.values));
    }
