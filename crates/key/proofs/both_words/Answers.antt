use mathlib.Core.Path.{◌∙◌}
use native.Mathlib.Omega.{arith}
use Rattle.key.proofs.Words.{not_nine, no_date, no_stroke, no_serial, words_read}
use Rattle.key.proofs.both_words.Goals as goal

pub returns-then-key-at-ne9 : goal.returns-then-key-at-ne9
returns-then-key-at-ne9 c = not_nine c.args.key.now c.args.at (λ e. omega arith)

pub returns-in_err-date : goal.returns-in_err-date
returns-in_err-date c = c.from_residual.ensures ∙ no_date c.args.key.now c.args.at (omega arith) c.in_err-date.ensures

pub returns-then-key-at-ne47 : goal.returns-then-key-at-ne47
returns-then-key-at-ne47 c = no_stroke c.args.key.now c.args.at (omega arith) c.in_ok-date.ensures c.if-key-at-ne47.true

pub returns-in_err-serial : goal.returns-in_err-serial
returns-in_err-serial c = c.from_residual-in_err-serial.ensures ∙ no_serial c.args.key.now c.args.at (omega arith) c.in_ok-date.ensures c.if-key-at-ne47.false c.in_err-serial.ensures

pub returns : goal.returns
returns c = words_read c.args.key.now c.args.at (omega arith) c.in_ok-date.ensures c.if-key-at-ne47.false c.in_ok-serial.ensures
