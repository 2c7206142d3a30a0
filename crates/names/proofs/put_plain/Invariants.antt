use lib.ListN.{length, take}
use Rattle.names.specs.Names.{escape}
use Rattle.names.specs.Steps.{plain_of}
use mathlib.Core.Path.{◌≡◌}
use Rattle.names.proofs.put_plain.Given as goal

abbrev pub invariant-loop-byte : goal.invariant-loop-byte
invariant-loop-byte l = record { marks : l.i ≡ length (escape (take l.byte-index (plain_of l.part))); laid : take l.byte-index l.byte-items ≡ take l.byte-index (plain_of l.part) }
