-- Broadcast messages: each with its PEC is right, two differ in at least four bits, and without PEC they are the plain ones.
-- Assumes nothing.
use Prim.Native.Nat.{ℕ, zero, suc, ◌+◌, ◌*◌, ◌≤◌}
use mathlib.Core.Bool.{Bool, true, false}
use mathlib.Core.List.{List, [], ◌∷◌, ◌++◌}
use mathlib.Core.Path.{◌≡◌, refl, sym, ap, ap₂, ◌∙◌}
use native.Mathlib.Omega.{arith}
use borrow.Author.Tests.{leb-true, leb-false}
use lib.Dec.{leb}
use lib.ListN.{length, get_or, take, drop}
use lib.Seq.{take_at, drop_at, drop-append-add}
use Rattle.frame.specs.Broadcasts.{message_to, message_of, sent_as, message_size, all_sent}
use Rattle.frame.proofs.Messages.{sent_size, some_size, all_size}
use Rattle.frame.specs.declared.Message.{Message}
use Rattle.frame_laws.specs.Broadcasts.{MessageFits, MessageAt, MessageRight, MessagesTell, RowsTell, TwoMessages, MessageAltered, PecOff}
use Rattle.frame_laws.proofs.Replies.{ends_right}
use Rattle.pec.proofs.Bounds.{pec_lt}
use Rattle.pec_laws.proofs.Theorems.{four_bits, caught}
use Rattle.rooms.specs.Rooms.{Bytes}
use Rattle.words.specs.Words.{low_of, high_of, joined}

-- past one message more
past : (plain : Bool) (m : Message) (bytes : List ℕ) (k : ℕ) → drop (message_size plain * suc k) (sent_as plain m ++ bytes) ≡ drop (message_size plain * k) bytes
past plain m bytes k =
    let e : message_size plain * suc k ≡ length (sent_as plain m) + message_size plain * k = omega (arith, sent_size plain m) in
    ap (λ (n : ℕ). drop n (sent_as plain m ++ bytes)) e ∙ drop-append-add (sent_as plain m) bytes (message_size plain * k)

pub message-at : MessageAt
message-at plain [] k none h = absurd (omega (arith, h))
message-at plain (m ∷ ms) zero none h =
    let e : message_size plain * 0 ≡ 0 = omega arith in
    ap (λ (n : ℕ). take (message_size plain) (drop n (sent_as plain m ++ all_sent plain ms))) e ∙ take_at (sent_as plain m) (all_sent plain ms) (message_size plain) (sent_size plain m)
message-at plain (m ∷ ms) (suc k) none h = ap (take (message_size plain)) (past plain m (all_sent plain ms) k) ∙ message-at plain ms k none (omega (arith, h))

pub message_right : MessageRight
message_right m = ends_right (message_of m)

-- the message that bytes carry, with PEC or without
abbrev carried : List ℕ → Message
carried bytes = message_to (get_or bytes 0 0) (get_or bytes 1 0) (joined (get_or bytes 2 0) (get_or bytes 3 0))

word_again : (w : ℕ) → joined (low_of w) (high_of w) ≡ w
word_again w = omega arith

carries : (plain : Bool) (m : Message) → carried (sent_as plain m) ≡ m
carries true m = ap (message_to m.address m.command) (word_again m.word)
carries false m = ap (message_to m.address m.command) (word_again m.word)

pub messages_tell : MessagesTell
messages_tell plain m n e = sym (carries plain m) ∙ ap carried e ∙ carries plain n

-- rows of one form
row_tells : (plain : Bool) (ms ns : List Message) → all_sent plain ms ≡ all_sent plain ns → ms ≡ ns
row_tells plain [] [] e = refl
row_tells plain [] (n ∷ ns) e = absurd (omega (arith, ap length e, all_size plain (n ∷ ns), some_size plain))
row_tells plain (m ∷ ms) [] e = absurd (omega (arith, ap length e, all_size plain (m ∷ ms), some_size plain))
row_tells plain (m ∷ ms) (n ∷ ns) e =
    let size = message_size plain in
    let first = sym (take_at (sent_as plain m) (all_sent plain ms) size (sent_size plain m)) ∙ ap (take size) e ∙ take_at (sent_as plain n) (all_sent plain ns) size (sent_size plain n) in
    let rest = sym (drop_at (sent_as plain m) (all_sent plain ms) size (sent_size plain m)) ∙ ap (drop size) e ∙ drop_at (sent_as plain n) (all_sent plain ns) size (sent_size plain n) in
    ap₂ (λ (p : Message) (ps : List Message). p ∷ ps) (messages_tell plain m n first) (row_tells plain ms ns rest)

-- four times one to four is no multiple of five
no_multiple : (x y : ℕ) → 1 ≤ x → x ≤ 4 → 4 * x ≡ 5 * y → ⊥
no_multiple x y h k e = go (leb x y) refl
  where
    go : (b : Bool) → leb x y ≡ b → ⊥
    go true t = omega (arith, h, e, leb-true x y t)
    go false f = omega (arith, k, e, leb-false x y f)

-- so of plain and checked rows that are the same bytes neither has a message
none_in_both : (ms ns : List Message) → length ms ≤ 4 → all_sent true ms ≡ all_sent false ns → ms ≡ ns
none_in_both [] [] h e = refl
none_in_both [] (n ∷ ns) h e = absurd (omega (arith, ap length e, all_size false (n ∷ ns)))
none_in_both (m ∷ ms) ns h e = absurd (no_multiple (length (m ∷ ms)) (length ns) (omega arith) h (sym (all_size true (m ∷ ms)) ∙ ap length e ∙ all_size false ns))

pub rows_tell : RowsTell
rows_tell true true ms ns h k e = row_tells true ms ns e
rows_tell false false ms ns h k e = row_tells false ms ns e
rows_tell true false ms ns h k e = none_in_both ms ns h e
rows_tell false true ms ns h k e = sym (none_in_both ns ms k (sym e))

message_bytes : (m : Message) → MessageFits m → Bytes (sent_as false m)
message_bytes m f = (f.address, (f.command, (omega (arith, f.word), (omega (arith, f.word), (pec_lt (message_of m), tt)))))

pub two_messages : TwoMessages
two_messages m n f g d =
    four_bits (sent_as false m) (sent_as false n)
    ((message_bytes m f, message_bytes n g, refl), message_right m, message_right n, λ e. d (messages_tell false m n e)) (omega arith)

pub message_altered : MessageAltered
message_altered m heard f h l =
    caught (sent_as false m) heard (message_bytes m f, h, sym l) (message_right m) (omega arith)

pub pec_off : PecOff
pec_off [] = refl
pec_off (m ∷ ms) = ap (λ (rest : List ℕ). m.address ∷ m.command ∷ low_of m.word ∷ high_of m.word ∷ rest) (pec_off ms)
