-- `commands::code_after` meets its contract: each arm by its key, the default by all the keys that it isn't.
-- Assumes nothing.
use Prim.Native.Nat.{ℕ}
use mathlib.Core.Path.{◌≡◌, refl, sym, ap, ◌∙◌}
use borrow.Author.Tests.{ne_eqb}
use Rattle.commands.specs.Answers.{code_after}
use Rattle.commands.proofs.code_after.Goals as goal

here : (before answer k x : ℕ) → answer ≡ k → x ≡ code_after k before → x ≡ code_after answer before
here before answer k x e h = h ∙ ap (λ (n : ℕ). code_after n before) (sym e)

pub returns-in-0 : goal.returns-in-0
unfolding code_after
returns-in-0 c = here c.args.before _ 0 _ c.in-0.is refl

pub returns-in-4 : goal.returns-in-4
unfolding code_after
returns-in-4 c = here c.args.before _ 4 _ c.in-4.is refl

pub returns-in-5 : goal.returns-in-5
unfolding code_after
returns-in-5 c = here c.args.before _ 5 _ c.in-5.is refl

pub returns-in-6 : goal.returns-in-6
unfolding code_after
returns-in-6 c = here c.args.before _ 6 _ c.in-6.is refl

pub returns-in-7 : goal.returns-in-7
unfolding code_after
returns-in-7 c = here c.args.before _ 7 _ c.in-7.is refl

pub returns-in-8 : goal.returns-in-8
unfolding code_after
returns-in-8 c = here c.args.before _ 8 _ c.in-8.is refl

pub returns-in-9 : goal.returns-in-9
unfolding code_after
returns-in-9 c = here c.args.before _ 9 _ c.in-9.is refl

pub returns-in-10 : goal.returns-in-10
unfolding code_after
returns-in-10 c = here c.args.before _ 10 _ c.in-10.is refl

pub returns-in_default : goal.returns-in_default
unfolding code_after
returns-in_default c =
    let r = c.in_default.in_default-own.rest in
    simp (
      ne_eqb _ _ r.1,
      ne_eqb _ _ r.0.1,
      ne_eqb _ _ r.0.0.1,
      ne_eqb _ _ r.0.0.0.1,
      ne_eqb _ _ r.0.0.0.0.1,
      ne_eqb _ _ r.0.0.0.0.0.1,
      ne_eqb _ _ r.0.0.0.0.0.0.1,
      ne_eqb _ _ r.0.0.0.0.0.0.0.1,
    )
