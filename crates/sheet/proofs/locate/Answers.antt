-- `locate` meets its contract: each return is a case of where the tag is listed. Assumes nothing.
use Rattle.std.proofs.Common.{◌≡◌, Ok, refl, sym, ◌∙◌}
use Rattle.sheet.specs.Block.{block_answer}
use Rattle.std.proofs.lemmas.Result.{err_from_is_err_and}
use Rattle.sheet.proofs.Names.{good_by, both, not_located, located, from_factory}
use Rattle.sheet.proofs.locate.Goals as goal
use Rattle.sheet.proofs.locate.Goals.{In_ok-block_answer}

pub returns-in_err-block_answer : goal.returns-in_err-block_answer
returns-in_err-block_answer c =
    let p = err_from_is_err_and c.from_residual.result c.from_residual.ensures.1 in
    rw (p.1, p.2) (not_located _ _ _ c.in_err-block_answer.ensures)

-- past the test both are sheets
good : (c : In_ok-block_answer) → block_answer c.args.service.now c.args.factory.now ≡ Ok (tt {0})
good c = sym c.in_ok-block_answer.ensures

pub find-requires : goal.find-requires
find-requires c = (both _ _ (good_by _ _ (good c))).0

pub find-requires-2 : goal.find-requires-2
find-requires-2 c = (both _ _ (good_by _ _ (good (goal.at.find-requires-2 c).In_ok-block_answer))).1

pub returns-in-Some : goal.returns-in-Some
returns-in-Some c = located _ _ _ (good (goal.at.returns-in-Some c).In_ok-block_answer) _ _ (sym c.find.ensures ∙ c.in-Some.is) refl

pub returns : goal.returns
returns c =
    from_factory _ _ _ (good (goal.at.returns c).In_ok-block_answer) (sym c.in_default.ensures) _ _ (sym c.find-2.ensures) c.unwrap_or-start.ensures
