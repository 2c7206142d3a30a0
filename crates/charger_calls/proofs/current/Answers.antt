-- `charger_calls::current` meets its contract.
-- Assumes nothing.
use mathlib.Core.Path.{sym, ap, ◌∙◌}
use Rattle.charger_state.specs.Charger.{sound_of}
use Rattle.charger_state.specs.declared.Charger.{Charger}
use Rattle.charger_calls.proofs.Areas.{no_area, an_area}
use Rattle.charger_calls.proofs.current.Goals as goal

pub returns-then-held-ne0 : goal.returns-then-held-ne0
returns-then-held-ne0 c = rw (no_area c.args.area.now c.load-held.ensures.is c.if-held-ne0.true)

pub returns-then-not-sound : goal.returns-then-not-sound
returns-then-not-sound c =
    let t = an_area c.args.area.now c.load-held.ensures.is c.if-held-ne0.false in
    let sound = c.sound.ensures ∙ ap (λ (s : Charger). sound_of s) t.1 in
    rw (t.0, sym sound ∙ c.if-not-sound.true)

pub returns : goal.returns
returns c =
    let t = an_area c.args.area.now c.load-held.ensures.is c.if-held-ne0.false in
    let sound = c.sound.ensures ∙ ap (λ (s : Charger). sound_of s) t.1 in
    rw (t.0, sym sound ∙ c.if-not-sound.false, c.pack_up.ensures, c.current.ensures, t.1)
