use mathlib.Core.Path.{◌∙◌}
use Rattle.key.proofs.Words.{digit_read, no_first, no_second, no_third, no_fourth, word_read}
use Rattle.key.proofs.word.Goals as goal

pub returns-in_err-a : goal.returns-in_err-a
returns-in_err-a c = c.from_residual.ensures ∙ no_first c.args.key.now c.args.at c.in_err-a.ensures

pub returns-in_err-b : goal.returns-in_err-b
returns-in_err-b c =
    let a = digit_read _ _ c.in_ok-a.ensures in
    c.from_residual-in_err-b.ensures ∙ no_second c.args.key.now c.args.at a c.in_err-b.ensures

pub returns-in_err-c : goal.returns-in_err-c
returns-in_err-c c =
    let a = digit_read _ _ c.in_ok-a.ensures in
    let b = digit_read _ _ c.in_ok-b.ensures in
    c.from_residual-in_err-c.ensures ∙ no_third c.args.key.now c.args.at a b c.in_err-c.ensures

pub returns-in_err-d : goal.returns-in_err-d
returns-in_err-d c =
    let a = digit_read _ _ c.in_ok-a.ensures in
    let b = digit_read _ _ c.in_ok-b.ensures in
    let d = digit_read _ _ c.in_ok-c.ensures in
    c.from_residual-in_err-d.ensures ∙ no_fourth c.args.key.now c.args.at a b d c.in_err-d.ensures

pub returns : goal.returns
returns c =
    let a = digit_read _ _ c.in_ok-a.ensures in
    let b = digit_read _ _ c.in_ok-b.ensures in
    let d = digit_read _ _ c.in_ok-c.ensures in
    word_read c.args.key.now c.args.at a b d (digit_read _ _ c.in_ok-d.ensures)
