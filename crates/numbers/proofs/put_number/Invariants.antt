-- With the first bytes written, the rest of them makes all.
use Rattle.std.proofs.Common.{◌≡◌, ◌+◌, ◌-◌, length}
use lib.Seq.{sets}
use Rattle.numbers.specs.Numbers.{number_bytes}
use Rattle.numbers.proofs.put_number.Given as goal

abbrev pub invariant-loop-i : goal.invariant-loop-i
invariant-loop-i l =
    record {
      all : sets l.part (l.at + l.i) (number_bytes (l.n - l.i) l.left) ≡ sets l.initial.part l.at (number_bytes l.n l.value);
      long : length l.part ≡ length l.initial.part;
    }
