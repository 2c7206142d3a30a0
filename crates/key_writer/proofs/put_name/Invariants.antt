use mathlib.Core.Path.{◌≡◌}
use Prim.Native.Nat.{◌+◌}
use lib.ListN.{length, take}
use lib.Seq.{sets}
use Rattle.names.specs.Names.{escape}
use Rattle.key_writer.proofs.put_name.Given as goal

abbrev pub invariant-loop-b : goal.invariant-loop-b
invariant-loop-b l = record { place : l.o ≡ l.at + length (escape (take l.b-index l.name)); laid : l.room ≡ sets l.initial.room l.at (escape (take l.b-index l.name)) }
