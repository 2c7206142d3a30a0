-- `thirteen_words::register` meets its contract: a cell by its place, each arm by its key, the default by all the keys that it isn't.
-- Assumes nothing.
use Prim.Native.Nat.{ℕ, ◌≤◌}
use mathlib.Core.Bool.{Bool, true, false, and-eq-true_iff}
use mathlib.Core.Path.{◌≡◌, refl, ap, sym, ◌∙◌}
use native.Mathlib.Omega.{arith}
use borrow.Author.Rules.{rules}
use borrow.Author.Tests.{leb-true, ne_eqb}
use lib.Dec.{leb}
use Rattle.commands.specs.Commands.{from}
use Rattle.minutes.specs.declared.Given.{Given}
use Rattle.minutes.specs.declared.Given.TheVariants.{Word, Until}
use Rattle.thirteen_pack.specs.declared.Thirteen.{Thirteen}
use Rattle.thirteen_words.specs.Word.{cell_of, given_of}
use Rattle.thirteen_words.proofs.register.Goals as goal

here : (p : Thirteen) (n k : ℕ) (x : Given) → n ≡ k → x ≡ given_of p k → x ≡ given_of p n
here p n k x e h = h ∙ ap (given_of p) (sym e)

-- a cell's command is 31 to 3D
bounds : (n : ℕ) → from 0x31 0x3D n ≡ true → (0x31 ≤ n) × (n ≤ 0x3D)
bounds n e = let b = (and-eq-true_iff _ _).0 e in (leb-true 0x31 n b.0, leb-true n 0x3D b.1)

-- so it is none of the keys before
cell : (p : Thirteen) (n : ℕ) → from 0x31 0x3D n ≡ true → Word (cell_of p n) ≡ given_of p n
unfolding given_of
cell p n e =
    let b = bounds n e in
    simp (
      ne_eqb n 0x08 (λ z. omega (arith, b.0, z)),
      ne_eqb n 0x09 (λ z. omega (arith, b.0, z)),
      ne_eqb n 0x0A (λ z. omega (arith, b.0, z)),
      ne_eqb n 0x0D (λ z. omega (arith, b.0, z)),
      ne_eqb n 0x11 (λ z. omega (arith, b.0, z)),
      ne_eqb n 0x13 (λ z. omega (arith, b.0, z)),
      ne_eqb n 0x16 (λ z. omega (arith, b.0, z)),
      e,
    )

pub overflow_sub-at : goal.overflow_sub-at
overflow_sub-at c =
    let b = bounds c.args.command (sym c.is_cell.ensures ∙ c.if-is_cell.true) in
    omega (arith, b.0)

pub bounds-cells-at : goal.bounds-cells-at
bounds-cells-at c =
    let b = bounds c.args.command (sym c.is_cell.ensures ∙ c.if-is_cell.true) in
    omega (arith, b.0, b.1)

pub returns-then-is_cell : goal.returns-then-is_cell
returns-then-is_cell c =
    let a = c.args in
    cell a.p a.command (sym c.is_cell.ensures ∙ c.if-is_cell.true)

pub returns-in_default : goal.returns-in_default
unfolding given_of
returns-in_default c =
    let n = c.args.command in
    let none = c.in_default.in_default-own.rest in
    simp (
      ne_eqb n 0x08 none.0.0.0.0.0.0.0.1,
      ne_eqb n 0x09 none.0.0.0.0.0.0.1,
      ne_eqb n 0x0A none.0.0.0.0.0.1,
      ne_eqb n 0x0D none.0.0.0.0.1,
      ne_eqb n 0x11 none.0.0.0.1,
      ne_eqb n 0x13 none.0.0.1,
      ne_eqb n 0x16 none.0.1,
      sym c.is_cell.ensures ∙ c.if-is_cell.false,
      ne_eqb n 0x4F none.1,
    )

pub returns-in-8 : goal.returns-in-8
unfolding given_of
returns-in-8 c = here c.args.p _ 0x08 _ c.in-8.is refl

pub returns-in-9 : goal.returns-in-9
unfolding given_of
returns-in-9 c = here c.args.p _ 0x09 _ c.in-9.is (ap Word c.voltage_word.ensures)

pub returns-in-10 : goal.returns-in-10
unfolding given_of
returns-in-10 c = here c.args.p _ 0x0A _ c.in-10.is (ap Word c.current_word.ensures)

pub returns-in-13 : goal.returns-in-13
unfolding given_of
returns-in-13 c = here c.args.p _ 0x0D _ c.in-13.is (ap Word c.relative.ensures)

pub returns-in-17 : goal.returns-in-17
unfolding given_of
returns-in-17 c = here c.args.p _ 0x11 _ c.in-17.is (ap Until c.run_time_to_empty.ensures)

pub returns-in-19 : goal.returns-in-19
unfolding given_of
returns-in-19 c = here c.args.p _ 0x13 _ c.in-19.is (ap Until c.average_time_to_full.ensures)

pub returns-in-22 : goal.returns-in-22
unfolding given_of
returns-in-22 c = here c.args.p _ 0x16 _ c.in-22.is (ap Word c.status.ensures)

pub returns-in-79 : goal.returns-in-79
unfolding given_of
returns-in-79 c = here c.args.p _ 0x4F _ c.in-79.is refl
