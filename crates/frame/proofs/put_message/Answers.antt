-- `frame::put_message` meets its contract.
-- Assumes nothing.
use Prim.Native.Nat.{ℕ, ◌+◌, ◌≤◌}
use mathlib.Core.List.{List, [], ◌∷◌, ◌++◌}
use mathlib.Core.Path.{◌≡◌, refl, ap, ap₂, ◌∙◌}
use native.Mathlib.Omega.{arith}
use lib.ListN.{length}
use lib.Seq.{sets}
use borrow.Author.Rules.{rules}
use Rattle.frame.specs.Broadcasts.{message_of, message_size}
use Rattle.frame.specs.declared.Message.{Message}
use Rattle.pec.specs.Pec.{pec_of}
use Rattle.words.specs.Words.{low_of, high_of}
use Rattle.frame.proofs.put_message.Goals as goal

-- a message's bytes, by its low and its high byte
bytes-are : (m : Message) (low high : ℕ) → low ≡ low_of m.word → high ≡ high_of m.word → m.address ∷ m.command ∷ low ∷ high ∷ [] ≡ message_of m
bytes-are m low high l h = ap₂ (λ (l : ℕ) (h : ℕ). m.address ∷ m.command ∷ l ∷ h ∷ []) l h

pub put_bytes-requires : goal.put_bytes-requires
put_bytes-requires c =
    let t = c.if-plain.true in
    let long : c.args.at + 4 ≤ length c.args.room.now = omega (arith, c.requires, ap message_size t) in
    search (long, rules)

pub returns-then-plain : goal.returns-then-plain
returns-then-plain c =
    let a = c.args in
    let t = c.if-plain.true in
    let e = bytes-are a.m c.low-low.result c.high-high.result c.low-low.ensures c.high-high.ensures in
    record { result = simp t refl; memory = simp t (c.put_bytes.ensures ∙ ap (sets a.room.now a.at) e) }

pub put_bytes-requires-2 : goal.put_bytes-requires-2
put_bytes-requires-2 c =
    let t = c.if-plain.false in
    let long : c.args.at + 5 ≤ length c.args.room.now = omega (arith, c.requires, ap message_size t) in
    search (long, rules)

pub returns : goal.returns
returns c =
    let a = c.args in
    let t = c.if-plain.false in
    let e = bytes-are a.m c.low-low.result c.high-high.result c.low-low.ensures c.high-high.ensures in
    let checked = ap₂ (λ (bytes : List ℕ) (check : ℕ). sets a.room.now a.at (bytes ++ check ∷ [])) e (c.pec-check.ensures ∙ ap pec_of e) in
    record { result = simp t refl; memory = simp t (c.put_bytes-2.ensures ∙ checked) }
