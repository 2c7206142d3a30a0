-- `body_at` meets its contract: the part between the place and the next place is the row's body. Assumes nothing.
use Rattle.std.proofs.Common.{◌∙◌, ap}
use Rattle.std.specs.Prelude.{Ok}
use Rattle.capture.proofs.Steps.{within, body-shown, body_end, body-not}
use Rattle.capture.proofs.body_at.Goals as goal

pub slice_bounds-result-count : goal.slice_bounds-result-count
slice_bounds-result-count c = (within _ _ _ c.step_at.ensures (c.in-Ok-Some.is ∙ ap Ok c.in-Ok-Some.field-0-is)).0

pub slice_bounds-result-start : goal.slice_bounds-result-start
slice_bounds-result-start c = (within _ _ _ c.step_at.ensures (c.in-Ok-Some.is ∙ ap Ok c.in-Ok-Some.field-0-is)).0

pub slice_bounds-result-end : goal.slice_bounds-result-end
slice_bounds-result-end c = (within _ _ _ c.step_at.ensures (c.in-Ok-Some.is ∙ ap Ok c.in-Ok-Some.field-0-is)).1

pub returns-in-Ok-Some : goal.returns-in-Ok-Some
returns-in-Ok-Some c =
    let r = body-shown _ _ _ c.step_at.ensures c.args.s.ref_ptr (c.in-Ok-Some.is ∙ ap Ok c.in-Ok-Some.field-0-is) in
    record { result_value = r.0; ref_ptr_value = r.1 }

pub returns-in-Ok-None : goal.returns-in-Ok-None
returns-in-Ok-None c =
    let r = body_end _ _ _ c.step_at.ensures c.args.s.ref_ptr (c.in-Ok-None.is ∙ ap Ok c.in-Ok-None.field-0-is) in
    record { result_value = r.0; ref_ptr_value = r.1 }

pub returns-in-Err : goal.returns-in-Err
returns-in-Err c =
    let r = body-not _ _ _ c.step_at.ensures c.args.s.ref_ptr c.in-Err.is in
    record { result_value = r.0; ref_ptr_value = r.1 }
