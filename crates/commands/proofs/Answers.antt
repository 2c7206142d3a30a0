-- What a request is answered and replied, by the numbers in their order.
-- Assumes nothing.
use Prim.Native.Nat.{ℕ, ◌+◌, ◌<◌, ◌≤◌}
use mathlib.Core.Bool.{Bool, true, false, cond, not}
use mathlib.Core.List.{List, []}
use mathlib.Core.Logic.{◌⊎◌, inl, inr}
use mathlib.Core.Path.{◌≡◌, refl, sym, ap}
use native.Mathlib.Omega.{arith}
use borrow.Author.Tests.{lt-ltb, le-ltb}
use lib.Dec.{eqb, ltb}
use lib.ListN.{length}
use Rattle.commands.specs.Answers.{Side, write_answer, bare, request_answer, side_answer, served, code_after, read_body, side_reply}
use Rattle.commands.specs.declared.Kind.{Kind}
use Rattle.commands.specs.declared.Kind.TheVariants.{ReadWrite, ReadOnly, WriteOnly, Block, Optional, Reserved}
use Rattle.frame.proofs.Replies.{reply_length}
use Rattle.rooms.proofs.Choice.{chosen}
use Rattle.frame.specs.Transactions.{reply_of}
use Rattle.frame.specs.declared.Request.{Request}
use Rattle.frame.specs.declared.Request.TheVariants.{Refused, Read, Write}

module _ (d : Side) (request : Request) (room : ℕ) where
  pub unsound : d.sound ≡ false → side_answer d request room ≡ 1
  unfolding side_answer
  unsound e = simp e

  pub small-room : d.sound ≡ true → room < d.least → side_answer d request room ≡ 2
  unfolding side_answer
  small-room e h = simp (e, lt-ltb _ _ h)

  pub past_two : d.sound ≡ true → d.least ≤ room → side_answer d request room ≡ request_answer d request
  unfolding side_answer
  past_two e h = simp (e, le-ltb _ _ h)

-- a refusal has no reply bytes
pub refused_reply : (d : Side) (bytes : List ℕ) (request : Request) (answer : ℕ) → served answer ≡ false → side_reply d bytes request answer ≡ []
refused_reply d bytes (Refused n) answer e = refl
refused_reply d bytes (Read command) answer e = ap (λ (b : Bool). cond b (side_reply d bytes (Read command) 0) []) e
refused_reply d bytes (Write command word checked) answer e = refl

-- and what is answered 0 or 10 is served
pub served_reply : {answer : ℕ} → (answer ≡ 0) ⊎ (answer ≡ 10) → (reply : List ℕ) → reply ≡ cond (served answer) reply []
served_reply (inl e) reply = ap (λ (n : ℕ). cond (served n) reply []) (sym e)
served_reply (inr e) reply = ap (λ (n : ℕ). cond (served n) reply []) (sym e)

pub is_served : {answer : ℕ} → (answer ≡ 0) ⊎ (answer ≡ 10) → served answer ≡ true
is_served (inl e) = ap (λ (n : ℕ). served n) e
is_served (inr e) = ap (λ (n : ℕ). served n) e

-- what a read shows is a word of two bytes, or a block's bytes
body_most : (d : Side) (most command : ℕ) (k : Kind) → 2 ≤ most → length (d.block command) ≤ most → length (read_body d command k) ≤ most
body_most d most command ReadWrite w b = omega (arith, w)
body_most d most command ReadOnly w b = omega (arith, w)
body_most d most command WriteOnly w b = omega arith
body_most d most command Block w b = b
body_most d most command Optional w b = omega arith
body_most d most command Reserved w b = omega arith

-- a reply is that and its PEC
pub reply_most : (d : Side) (most : ℕ) → 2 ≤ most → ((command : ℕ) → length (d.block command) ≤ most)
    → (bytes : List ℕ) (request : Request) (answer : ℕ) → length (side_reply d bytes request answer) ≤ most + 1
reply_most d most w b bytes (Refused n) answer = omega arith
reply_most d most w b bytes (Read command) answer = go (served answer)
  where
    body : List ℕ
    body = read_body d command (d.kinds command)

    go : (v : Bool) → length (cond v (reply_of bytes body) []) ≤ most + 1
    go true = omega (arith, reply_length bytes body, body_most d most command (d.kinds command) w (b command))
    go false = omega arith
reply_most d most w b bytes (Write command word checked) answer = omega arith

-- the table leaves a code of at most 7, or what was there
pub code_most : (most n before : ℕ) → 7 ≤ most → before ≤ most → code_after n before ≤ most
unfolding code_after
code_most most n before m h =
    chosen (λ c. c ≤ most) (eqb n 0) (λ e. omega arith)
    (λ e. chosen (λ c. c ≤ most) (eqb n 4) (λ f. omega (arith, m))
    (λ f. chosen (λ c. c ≤ most) (eqb n 5) (λ g. omega (arith, m))
    (λ g. chosen (λ c. c ≤ most) (eqb n 6) (λ i. omega (arith, m))
    (λ i. chosen (λ c. c ≤ most) (eqb n 7) (λ j. omega (arith, m))
    (λ j. chosen (λ c. c ≤ most) (eqb n 8) (λ k. omega (arith, m))
    (λ k. chosen (λ c. c ≤ most) (eqb n 9) (λ l. omega (arith, m))
    (λ l. chosen (λ c. c ≤ most) (eqb n 10) (λ o. omega (arith, m)) (λ o. h))))))))

-- a write that isn't answered 0 isn't served
pub write_refused : (kind : Kind) → (write_answer kind ≡ 0 → ⊥) → served (write_answer kind) ≡ false
write_refused Reserved h = refl
write_refused Optional h = refl
write_refused Block h = refl
write_refused ReadOnly h = refl
write_refused WriteOnly h = absurd (h refl)
write_refused ReadWrite h = absurd (h refl)

-- whatever the state and the room
pub none_served : (d : Side) (command word : ℕ) (checked : Bool) (room : ℕ) → (side_answer d (Write command word checked) room ≡ 0 → ⊥)
    → served (side_answer d (Write command word checked) room) ≡ false
unfolding side_answer
none_served d command word checked room = go (not d.sound) (ltb room d.least) (bare d checked)
  where
    go : (unsound short without : Bool) → (cond unsound 1 (cond short 2 (cond without 4 (write_answer (d.kinds command)))) ≡ 0 → ⊥)
        → served (cond unsound 1 (cond short 2 (cond without 4 (write_answer (d.kinds command))))) ≡ false
    go true short without h = refl
    go false true without h = refl
    go false false true h = refl
    go false false false h = write_refused (d.kinds command) h
