-- `remove` meets its contract: the refusals are the definition's, and past them what is found tells each number. Assumes nothing.
use mathlib.Core.Path.{sym, ◌∙◌}
use mathlib.Core.Option.{none}
use native.Mathlib.Omega.{arith}
use Rattle.std.proofs.lemmas.Result.{err_from_is_err_and}
use Rattle.sheet_edit.proofs.Answers.{refused, served}
use Rattle.sheet_edit.proofs.Told.{known}
use Rattle.sheet_edit.proofs.Whole.{removed-size, removed}
use Rattle.sheet_edit.proofs.remove.Goals as goal

pub returns-in_err-rows : goal.returns-in_err-rows
returns-in_err-rows c =
    let p = err_from_is_err_and c.from_residual.result c.from_residual.ensures.1 in
    let r = refused c.args.room.now c.args.stated c.args.tag none _ (sym c.in_err-rows.ensures) in
    record { value = rw (p.1, p.2) r.0; room_after = r.1 }

pub take_out-requires : goal.take_out-requires
take_out-requires c =
    let k = known c.args.room.now c.args.stated c.args.tag 0 (λ i. grind arith) _ c.in_ok-rows.ensures in
    let z = k.sizes_are in
    record {
      n_bound = (z.after, z.rises, z.ends, z.reach);
      row_le_past = omega (arith, z.up, z.inside, z.few, k.rows_is);
    }

pub returns : goal.returns
returns c =
    let k = known c.args.room.now c.args.stated c.args.tag 0 (λ i. grind arith) _ c.in_ok-rows.ensures in
    let r = served c.args.room.now c.args.stated c.args.tag none k.tests _ _ (k.left_is ∙ removed-size _ _ k.span_is) (omega (arith, k.left_is, k.sizes_are.left-most)) (c.take_out.ensures ∙ removed _ _ k.span_is) in
    record { value = r.0; room_after = r.1 }
