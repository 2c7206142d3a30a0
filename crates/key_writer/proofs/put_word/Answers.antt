use native.Mathlib.Omega.{arith}
use lib.ListN.{length-set}
use Rattle.key_writer.proofs.Writing.{word_laid}
use Rattle.key_writer.proofs.put_word.Goals as goal

pub bounds-room-at-2 : goal.bounds-room-at-2
bounds-room-at-2 c = simp length-set (omega arith)

pub bounds-room-at-3 : goal.bounds-room-at-3
bounds-room-at-3 c = simp length-set (omega arith)

pub bounds-room-at-4 : goal.bounds-room-at-4
bounds-room-at-4 c = simp length-set (omega arith)

pub returns : goal.returns
returns c = word_laid _ _ _ c.digit.ensures c.digit-2.ensures c.digit-3.ensures c.digit-4.ensures
