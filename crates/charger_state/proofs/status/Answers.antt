-- `charger_state::status` meets its contract: bit by bit.
-- Assumes nothing.
use native.Mathlib.Omega.{arith}
use borrow.Author.Rules.{rules}
use Rattle.charger_state.specs.Charger.{status_of}
use Rattle.charger_state.proofs.status.Goals as goal

pub returns : goal.returns
unfolding status_of
returns c =
    simp (
      ← c.flag-inhibited.ensures.is,
      ← c.flag-voltage.ensures.is,
      ← c.falls.ensures,
      ← c.flag-current.ensures.is,
      ← c.flag-alarm.ensures.is,
    )
    (omega arith)
