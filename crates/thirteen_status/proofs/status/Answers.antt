-- `thirteen_status::status` meets its contract: bit by bit.
-- Assumes nothing.
use mathlib.Core.Bool.{Bool, cond}
use mathlib.Core.Path.{ap, ◌∙◌}
use borrow.Author.Rules.{rules}
use Rattle.thirteen_status.proofs.Bits.{nine}
use Rattle.thirteen_status.specs.Status.{status_of}
use Rattle.thirteen_status.proofs.status.Goals as goal

pub returns : goal.returns
unfolding status_of
returns c =
    let size = c.size-size.ensures.is in
    let falls = c.falls-falls.ensures in
    let rises = c.rises-rises.ensures in
    nine
    (c.flag-hot.ensures.is ∙ ap (λ (b : Bool). cond b 0x2000 0) c.over_temperature.ensures ∙ rw (rises, falls))
    (c.flag-cold.ensures.is ∙ ap (λ (b : Bool). cond b 0x1000 0) c.under_temperature.ensures)
    (c.flag-drawn.ensures.is ∙ ap (λ (b : Bool). cond b 0x0800 0) c.discharge_over_current.ensures ∙ rw (falls, size))
    (c.flag-put.ensures.is ∙ ap (λ (b : Bool). cond b 0x0400 0) c.charge_over_current.ensures ∙ rw (rises, size))
    (c.flag-high.ensures.is ∙ ap (λ (b : Bool). cond b 0x0200 0) c.over_voltage.ensures)
    (c.flag-low.ensures.is ∙ ap (λ (b : Bool). cond b 0x0100 0) c.under_voltage.ensures)
    (c.flag-falling.ensures.is ∙ rw falls)
    (c.flag-charged.ensures.is ∙ ap (λ (b : Bool). cond b 0x0020 0) c.fully_charged.ensures ∙ rw (rises, size))
    c.flag-empty.ensures.is
