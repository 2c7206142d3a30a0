-- `thirteen_words::current_word` meets its contract: the size divided, with its sign.
-- Assumes nothing.
use Prim.Native.Nat.{ℕ, ◌/◌}
use mathlib.Core.Path.{ap, sym, ◌∙◌}
use native.Mathlib.Omega.{arith}
use borrow.Author.Rules.{rules}
use borrow.Author.Tests.{leb-true, leb-false, not-true, not-false}
use lib.IntN.{ℤ, pos, neg_ℤ, nat_abs}
use lib.Signed.{quot_z}
use mir.Syntax.{w16}
use mir.Val.{of_z}
use Rattle.recent.proofs.Integers.{minus}
use Rattle.words.proofs.Integers.{low, high, size_is}
use Rattle.thirteen_words.proofs.current_word.Goals as goal

-- the word of an integer's tens
abbrev tens_of : ℤ → ℕ
tens_of z = of_z w16 (quot_z z (pos 10))

pub returns-then-not-falls : goal.returns-then-not-falls
returns-then-not-falls c =
    let w = c.args.current in
    let e = low w (leb-false 32768 w (sym c.falls.ensures ∙ c.if-not-falls.true)) in
    ap (λ (n : ℕ). n / 10) (c.size-tens.ensures.is ∙ size_is w (omega arith) ∙ ap nat_abs e) ∙ ap tens_of (sym e)

pub returns-then-tens-eq0 : goal.returns-then-tens-eq0
returns-then-tens-eq0 c =
    let w = c.args.current in
    let e = high w (leb-true 32768 w (sym c.falls.ensures ∙ c.if-not-falls.false)) in
    let size = c.size-tens.ensures.is ∙ size_is w (omega arith) ∙ ap nat_abs e in
    ap (λ (m : ℕ). of_z w16 (neg_ℤ (pos m))) (sym c.if-tens-eq0.true ∙ ap (λ (n : ℕ). n / 10) size) ∙ ap tens_of (sym e)

pub returns : goal.returns
returns c =
    let w = c.args.current in
    let e = high w (leb-true 32768 w (sym c.falls.ensures ∙ c.if-not-falls.false)) in
    let size = c.size-tens.ensures.is ∙ size_is w (omega arith) ∙ ap nat_abs e in
    minus _ (omega (arith, c.if-tens-eq0.false)) ∙ ap (λ (n : ℕ). of_z w16 (neg_ℤ (pos (n / 10)))) size ∙ ap tens_of (sym e)
