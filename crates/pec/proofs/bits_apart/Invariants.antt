-- `pec::bits_apart`: the sum so far, with the bits in which what is left differs, is the whole.
-- Assumes nothing.
use Rattle.std.proofs.Common.{◌≡◌, ◌+◌, ◌*◌, ◌≤◌, drop}
use Rattle.pec.specs.Messages.{bits_apart}
use Rattle.pec.proofs.bits_apart.Given as goal

abbrev pub invariant-loop-i : goal.invariant-loop-i
invariant-loop-i l = (l.sum + bits_apart (drop l.i l.a) (drop l.i l.b) ≡ bits_apart l.a l.b) × (l.sum ≤ 8 * l.i)
