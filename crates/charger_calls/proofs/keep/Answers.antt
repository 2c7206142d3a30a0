-- `charger_calls::keep` meets its contract.
-- Assumes nothing.
use borrow.Author.Tests.{eq-eqb}
use mathlib.Core.Path.{◌∙◌}
use Rattle.charger_area.specs.Area.{stored_room}
use Rattle.charger_calls.proofs.keep.Goals as goal

pub returns-then-stores : goal.returns-then-stores
unfolding stored_room
returns-then-stores c = rw c.if-stores.true (c.store.ensures.memory ∙ rw (eq-eqb _ _ c.requires))
