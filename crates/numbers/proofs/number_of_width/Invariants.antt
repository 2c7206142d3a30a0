-- What is found is the number of the bytes from place i on.
use Rattle.std.proofs.Common.{◌≡◌, ◌+◌, ◌-◌, ◌^◌, ◌<◌}
use Rattle.numbers.specs.Numbers.{number_at}
use Rattle.numbers.proofs.number_of_width.Given as goal

abbrev pub invariant-loop-i : goal.invariant-loop-i
invariant-loop-i l =
    record {
      is : l.found ≡ number_at (l.n - l.i) l.part (l.at + l.i);
      small : l.found < 256 ^ (l.n - l.i);
    }
