-- `frame::recognise` meets its contract: each return by the tests that led there.
-- Assumes nothing.
use mathlib.Core.Path.{◌≡◌}
use Prim.Native.Nat.{◌-◌}
use native.Mathlib.Omega.{arith}
use borrow.Author.Tests.{eq-eqb, ne_eqb}
use lib.ListN.{length}
use Rattle.pec.specs.Messages.{ends_in_pec}
use Rattle.frame.specs.Transactions.{request_of}
use Rattle.frame.proofs.recognise.Goals as goal

pub returns-then-n-eq0 : goal.returns-then-n-eq0
unfolding request_of
returns-then-n-eq0 c = simp (eq-eqb _ _ c.if-n-eq0.true)

pub returns-then-bytes-address : goal.returns-then-bytes-address
unfolding request_of
returns-then-bytes-address c = simp (ne_eqb _ _ c.if-n-eq0.false, ne_eqb _ _ c.if-bytes-address.true)

pub returns-then-n-ne3 : goal.returns-then-n-ne3
unfolding request_of
returns-then-n-ne3 c =
    let some = ne_eqb _ _ c.if-n-eq0.false in
    let own = eq-eqb _ _ c.if-bytes-address.false in
    let mark = c.if-read.true in
    simp (some, own, mark, ne_eqb _ _ c.if-n-ne3.true)

pub returns-then-bytes-address-2 : goal.returns-then-bytes-address-2
unfolding request_of
returns-then-bytes-address-2 c =
    let some2 = ne_eqb _ _ c.if-n-eq0.false in
    let own2 = eq-eqb _ _ c.if-bytes-address.false in
    let mark2 = c.if-read.true in
    simp (some2, own2, mark2, eq-eqb _ _ c.if-n-ne3.false, ne_eqb _ _ c.if-bytes-address-2.true)

pub returns-then-read : goal.returns-then-read
unfolding request_of
returns-then-read c =
    let some3 = ne_eqb _ _ c.if-n-eq0.false in
    let own3 = eq-eqb _ _ c.if-bytes-address.false in
    let mark3 = c.if-read.true in
    simp (some3, own3, mark3, eq-eqb _ _ c.if-n-ne3.false, eq-eqb _ _ c.if-bytes-address-2.false)

pub returns-then-n-eq4 : goal.returns-then-n-eq4
unfolding request_of
returns-then-n-eq4 c =
    let some4 = ne_eqb _ _ c.if-n-eq0.false in
    let own4 = eq-eqb _ _ c.if-bytes-address.false in
    let mark4 = c.if-read.false in
    let four = eq-eqb _ _ c.if-n-eq4.true in
    let five = ne_eqb (length c.args.bytes.now) 5 (λ e. omega arith) in
    simp (some4, own4, mark4, four, five, c.write_of.ensures)

pub returns-then-n-ne5 : goal.returns-then-n-ne5
unfolding request_of
returns-then-n-ne5 c =
    let some5 = ne_eqb _ _ c.if-n-eq0.false in
    let own5 = eq-eqb _ _ c.if-bytes-address.false in
    let mark5 = c.if-read.false in
    simp (some5, own5, mark5, ne_eqb _ _ c.if-n-eq4.false, ne_eqb _ _ c.if-n-ne5.true)

pub returns-then-bytes-pec : goal.returns-then-bytes-pec
unfolding request_of ends_in_pec
returns-then-bytes-pec c =
    let some6 = ne_eqb _ _ c.if-n-eq0.false in
    let own6 = eq-eqb _ _ c.if-bytes-address.false in
    let mark6 = c.if-read.false in
    let four = ne_eqb _ _ c.if-n-eq4.false in
    let five = eq-eqb _ _ c.if-n-ne5.false in
    let last : length c.args.bytes.now - 1 ≡ 4 = omega arith in
    simp (some6, own6, mark6, four, five, last, ← c.pec.ensures, ne_eqb _ _ c.if-bytes-pec.true)

pub returns : goal.returns
unfolding request_of ends_in_pec
returns c =
    let some7 = ne_eqb _ _ c.if-n-eq0.false in
    let own7 = eq-eqb _ _ c.if-bytes-address.false in
    let mark7 = c.if-read.false in
    let four2 = ne_eqb _ _ c.if-n-eq4.false in
    let five2 = eq-eqb _ _ c.if-n-ne5.false in
    let last : length c.args.bytes.now - 1 ≡ 4 = omega arith in
    simp (c.write_of-2.ensures, some7, own7, mark7, four2, five2, last, ← c.pec.ensures, eq-eqb _ _ c.if-bytes-pec.false)
