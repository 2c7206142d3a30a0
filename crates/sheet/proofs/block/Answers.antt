-- `block` meets its contract: the part that is located is the name, and stands at its place. Assumes nothing.
use Rattle.sheet.proofs.Names.{Told, told, told_bad}
use Rattle.sheet.proofs.block.Goals as goal
use Rattle.sheet.proofs.block.Goals.{In-Ok}

-- what is told of the part that is located
part : (c : In-Ok) → Told c.args.service.now c.args.factory.now c.args.tag c.args.service.ref_ptr c.args.factory.ref_ptr c.in-Ok.part
part c = told _ _ _ _ _ c.in-Ok.ensures

pub slice_bounds-result-count : goal.slice_bounds-result-count
slice_bounds-result-count c = ((part (goal.at.slice_bounds-result-count c).In-Ok).factory-in c.if-part.true).rises

pub slice_bounds-result-start : goal.slice_bounds-result-start
slice_bounds-result-start c = ((part (goal.at.slice_bounds-result-start c).In-Ok).factory-in c.if-part.true).rises

pub slice_bounds-result-end : goal.slice_bounds-result-end
slice_bounds-result-end c = ((part (goal.at.slice_bounds-result-end c).In-Ok).factory-in c.if-part.true).ends

pub returns-in-Ok : goal.returns-in-Ok
returns-in-Ok c =
    let n = (part (goal.at.returns-in-Ok c).In-Ok).factory c.if-part.true in
    record { result_value = n.0; ref_ptr_value = n.1 }

pub slice_bounds-result-count-in-Ok-2 : goal.slice_bounds-result-count-in-Ok-2
slice_bounds-result-count-in-Ok-2 c = ((part (goal.at.slice_bounds-result-count-in-Ok-2 c).In-Ok).service-in c.if-part.false).rises

pub slice_bounds-result-start-in-Ok-2 : goal.slice_bounds-result-start-in-Ok-2
slice_bounds-result-start-in-Ok-2 c = ((part (goal.at.slice_bounds-result-start-in-Ok-2 c).In-Ok).service-in c.if-part.false).rises

pub slice_bounds-result-end-in-Ok-2 : goal.slice_bounds-result-end-in-Ok-2
slice_bounds-result-end-in-Ok-2 c = ((part (goal.at.slice_bounds-result-end-in-Ok-2 c).In-Ok).service-in c.if-part.false).ends

pub returns-in-Ok-2 : goal.returns-in-Ok-2
returns-in-Ok-2 c =
    let n = (part (goal.at.returns-in-Ok-2 c).In-Ok).service c.if-part.false in
    record { result_value = n.0; ref_ptr_value = n.1 }

pub returns-in-Err : goal.returns-in-Err
returns-in-Err c =
    let n = told_bad _ _ _ c.args.service.ref_ptr c.args.factory.ref_ptr c.in-Err.ensures in
    record { result_value = n.0; ref_ptr_value = n.1 }
