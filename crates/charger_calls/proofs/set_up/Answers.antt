-- `charger_calls::set_up` meets its contract.
-- Assumes nothing.
use mathlib.Core.Path.{ap, ◌∙◌}
use Rattle.charger_state.specs.declared.Charger.{Charger}
use Rattle.charger_area.specs.Area.{stored_room}
use Rattle.charger_calls.proofs.set_up.Goals as goal

pub returns : goal.returns
returns c =
    let stored = c.store.ensures in
    record { value = stored.answer; area_after = stored.memory ∙ ap (λ (s : Charger). stored_room s c.args.area.now) c.set_up-state.ensures }
