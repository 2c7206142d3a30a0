-- `charger_state::current` meets its contract.
-- Assumes nothing.
use Rattle.charger_state.specs.Charger.{current_of}
use Rattle.charger_state.proofs.current.Goals as goal

pub returns-then-s : goal.returns-then-s
unfolding current_of
returns-then-s c = simp c.if-s.true

pub returns : goal.returns
unfolding current_of
returns c = simp c.if-s.false
