-- `set` meets its contract: the refusals are the definition's, and past them what is found tells each number. Assumes nothing.
use mathlib.Core.Path.{◌≡◌, sym, ◌∙◌}
use mathlib.Core.Option.{some}
use Prim.Native.Nat.{◌+◌, ◌≤◌}
use native.Mathlib.Omega.{arith}
use lib.ListN.{length}
use Rattle.std.proofs.lemmas.Result.{err_from_is_err_and}
use Rattle.sheet_edit.specs.Edit.{sheet_after}
use Rattle.sheet_edit.proofs.Answers.{refused, too_long, served}
use Rattle.sheet_edit.proofs.Told.{known}
use Rattle.sheet_edit.proofs.Whole.{second, set-size, set-done, first_small, holds_length}
use Rattle.sheet_edit.proofs.set.Goals as goal

pub returns-in_err-rows : goal.returns-in_err-rows
returns-in_err-rows c =
    let p = err_from_is_err_and c.from_residual.result c.from_residual.ensures.1 in
    let r = refused c.args.room.now c.args.stated c.args.tag (some c.args.body.now) _ (sym c.in_err-rows.ensures) in
    record { value = rw (p.1, p.2) r.0; room_after = r.1 }

pub overflow_add-length : goal.overflow_add-length
overflow_add-length c =
    let k = known c.args.room.now c.args.stated c.args.tag (length c.args.body.now) (λ i. grind arith) _ c.in_ok-rows.ensures in
    omega (arith, k.left_is, k.sizes_are.left-most, c.well_formed)

pub overflow_add-length-2 : goal.overflow_add-length-2
overflow_add-length-2 c =
    let k = known c.args.room.now c.args.stated c.args.tag (length c.args.body.now) (λ i. grind arith) _ c.in_ok-rows.ensures in
    let most : c.in_ok-rows.field-0.left ≤ length c.args.room.now = omega (arith, k.left_is, k.sizes_are.left-most) in
    record { fits = holds_length most (omega (arith, c.well_formed)) (omega (arith, k.tests.short)) (omega arith) }

pub returns-then-room-length : goal.returns-then-room-length
returns-then-room-length c =
    let k = known c.args.room.now c.args.stated c.args.tag (length c.args.body.now) (λ i. grind arith) _ c.in_ok-rows.ensures in
    let r = too_long c.args.room.now c.args.stated c.args.tag (some c.args.body.now) k.tests _ (rw k.left_is (set-size _ _ k.span_is c.args.body.now)) c.if-room-length.true in
    record { value = r.0; room_after = r.1 }

pub overflow_sub-gone : goal.overflow_sub-gone
overflow_sub-gone c =
    let k = known c.args.room.now c.args.stated c.args.tag (length c.args.body.now) (λ i. grind arith) _ c.in_ok-rows.ensures in
    k.sizes_are.up

pub rows_size-requires : goal.rows_size-requires
rows_size-requires c =
    let k = known c.args.room.now c.args.stated c.args.tag (length c.args.body.now) (λ i. grind arith) _ c.in_ok-rows.ensures in
    omega (arith, k.sizes_are.inside, k.sizes_are.few)

pub overflow_sub-from : goal.overflow_sub-from
overflow_sub-from c =
    let k = known c.args.room.now c.args.stated c.args.tag (length c.args.body.now) (λ i. grind arith) _ c.in_ok-rows.ensures in
    omega (arith, k.sizes_are.after, k.sizes_are.inside, c.rows_size.ensures)

pub take_out-requires : goal.take_out-requires
take_out-requires c =
    let k = known c.args.room.now c.args.stated c.args.tag (length c.args.body.now) (λ i. grind arith) _ c.in_ok-rows.ensures in
    let z = k.sizes_are in
    record {
      n_bound = (z.after, z.rises, z.ends, z.reach);
      row_le_past = omega (arith, z.up, z.inside, z.few, k.rows_is);
    }

pub overflow_sub-rows : goal.overflow_sub-rows
overflow_sub-rows c =
    let k = known c.args.room.now c.args.stated c.args.tag (length c.args.body.now) (λ i. grind arith) _ c.in_ok-rows.ensures in
    omega (arith, k.sizes_are.inside)

pub put_in-requires : goal.put_in-requires
put_in-requires c =
    let k = known c.args.room.now c.args.stated c.args.tag (length c.args.body.now) (λ i. grind arith) _ c.in_ok-rows.ensures in
    let z = second _ _ k.span_is _ c.rows_size.ensures in
    let same : length c.take_out.new.room ≡ length c.args.room.now = c.take_out.auto.room in
    let small = rw (← c.take_out.ensures) at (first_small _ _ k.span_is) in
    record {
      n_bound = (z.start, omega (arith, z.within, k.left_is, c.rows_size.ensures), rw same c.if-room-length.false, k.tests.short);
      row_le_n = (z.row_in, z.few, small);
    }

pub shape_of-room : goal.shape_of-room
shape_of-room c = c.put_in.auto.room ∙ c.take_out.auto.room

pub returns : goal.returns
returns c =
    let k = known c.args.room.now c.args.stated c.args.tag (length c.args.body.now) (λ i. grind arith) _ c.in_ok-rows.ensures in
    let body = c.args.body.now in
    let l = k.left_is in
    let f = c.rows_size.ensures in
    let n : c.in_ok-rows.field-0.left + length body + 4 ≡ length (sheet_after c.args.room.now c.args.stated c.args.tag (some body)) = rw l (set-size _ _ k.span_is body) in
    let r = served c.args.room.now c.args.stated c.args.tag (some body) k.tests _ _ n c.if-room-length.false (c.put_in.ensures ∙ rw (c.take_out.ensures, f, l) (set-done _ _ k.span_is body (rw l at c.if-room-length.false))) in
    record { value = r.0; room_after = r.1 }
