use lib.ListN.{length-set}
use native.Mathlib.Numerals.{add-one}
use native.Mathlib.Omega.{arith}
use mathlib.Core.Path.{◌∙◌, sym}
use Rattle.key_writer.proofs.put_byte.Goals as goal

pub bounds-room-at-then-is_marked : goal.bounds-room-at-then-is_marked
bounds-room-at-then-is_marked c = simp length-set (omega arith)

pub returns-then-is_marked : goal.returns-then-is_marked
returns-then-is_marked c = let m = sym c.is_marked.ensures ∙ c.if-is_marked.true in record { value = rw m; room_after = rw (m, add-one) }

pub returns : goal.returns
returns c = let m = sym c.is_marked.ensures ∙ c.if-is_marked.false in record { value = rw m; room_after = rw m }
