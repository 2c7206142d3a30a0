-- Past the tests the sheet at the front and the span of the tag tell each number. Assumes nothing.
use mathlib.Core.Path.{sym}
use native.Mathlib.Omega.{arith}
use lib.Seq.{length-take-le}
use Rattle.std.proofs.lemmas.Result.{err_from_is_err_and}
use Rattle.sheet_edit.specs.Tests.{found_in}
use Rattle.sheet_edit.proofs.Rooms.{some_bytes}
use Rattle.sheet_edit.proofs.Answers.{passed, not_passed, go_on}
use Rattle.sheet_edit.proofs.Told.{at_front, searched, numbers}
use Rattle.sheet_edit.proofs.look_up.Goals as goal

pub returns-in_err-tested : goal.returns-in_err-tested
returns-in_err-tested c =
    let p = err_from_is_err_and c.from_residual.result c.from_residual.ensures.1 in
    rw (p.1, p.2) (sym (not_passed c.args.room.now c.args.stated c.args.tag c.args.size tt _ (sym c.in_err-tested.ensures)))

pub bounds-room-0 : goal.bounds-room-0
bounds-room-0 c =
    let P = (passed c.args.room.now c.args.stated c.args.tag c.args.size tt (sym c.in_ok-tested.ensures)).0 in
    let F = at_front c.args.room.now c.args.stated c.args.tag c.args.size (λ i. grind arith) P in
    some_bytes F

pub slice_bounds-span_of-end : goal.slice_bounds-span_of-end
slice_bounds-span_of-end c =
    let P = (passed c.args.room.now c.args.stated c.args.tag c.args.size tt (sym c.in_ok-tested.ensures)).0 in
    let F = at_front c.args.room.now c.args.stated c.args.tag c.args.size (λ i. grind arith) P in
    sym (length-take-le _ _ F.reach)

pub span_of-span-requires : goal.span_of-span-requires
span_of-span-requires c =
    let P = (passed c.args.room.now c.args.stated c.args.tag c.args.size tt (sym c.in_ok-tested.ensures)).0 in
    searched c.args.room.now c.args.stated c.args.tag c.args.size (λ i. grind arith) P c.from-rows.ensures

pub overflow_sub-left : goal.overflow_sub-left
overflow_sub-left c =
    let P = (passed c.args.room.now c.args.stated c.args.tag c.args.size tt (sym c.in_ok-tested.ensures)).0 in
    let z = numbers c.args.room.now c.args.stated c.args.tag c.args.size (λ i. grind arith) P c.from-rows.ensures c.span_of-span.ensures in
    z.rises

pub overflow_sub-left-2 : goal.overflow_sub-left-2
overflow_sub-left-2 c =
    let P = (passed c.args.room.now c.args.stated c.args.tag c.args.size tt (sym c.in_ok-tested.ensures)).0 in
    let z = numbers c.args.room.now c.args.stated c.args.tag c.args.size (λ i. grind arith) P c.from-rows.ensures c.span_of-span.ensures in
    omega (arith, z.ends)

pub overflow_sub-span : goal.overflow_sub-span
overflow_sub-span c =
    let P = (passed c.args.room.now c.args.stated c.args.tag c.args.size tt (sym c.in_ok-tested.ensures)).0 in
    let z = numbers c.args.room.now c.args.stated c.args.tag c.args.size (λ i. grind arith) P c.from-rows.ensures c.span_of-span.ensures in
    omega (arith, z.up)

pub rows_size-requires : goal.rows_size-requires
rows_size-requires c =
    let P = (passed c.args.room.now c.args.stated c.args.tag c.args.size tt (sym c.in_ok-tested.ensures)).0 in
    let z = numbers c.args.room.now c.args.stated c.args.tag c.args.size (λ i. grind arith) P c.from-rows.ensures c.span_of-span.ensures in
    omega (arith, z.inside, z.few)

pub overflow_sub-left-3 : goal.overflow_sub-left-3
overflow_sub-left-3 c =
    let P = (passed c.args.room.now c.args.stated c.args.tag c.args.size tt (sym c.in_ok-tested.ensures)).0 in
    let z = numbers c.args.room.now c.args.stated c.args.tag c.args.size (λ i. grind arith) P c.from-rows.ensures c.span_of-span.ensures in
    omega (arith, z.room_for, c.rows_size.ensures)

pub returns : goal.returns
unfolding found_in
returns c =
    let P = (passed c.args.room.now c.args.stated c.args.tag c.args.size tt (sym c.in_ok-tested.ensures)).0 in
    rw (c.rows_size.ensures, c.span_of-span.ensures, c.from-rows.ensures, go_on c.args.room.now c.args.stated c.args.tag P)
