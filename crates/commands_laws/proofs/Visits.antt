-- Answers by row, served replies and exchanges, of any side of the bus.
-- Assumes nothing.
use Prim.Native.Nat.{ℕ, ◌≤◌, ◌<◌}
use mathlib.Core.Bool.{Bool, true, false, cond, true≢false}
use mathlib.Core.List.{List, [], ◌∷◌, ◌++◌}
use mathlib.Core.Logic.{inl}
use mathlib.Core.Path.{◌≡◌, refl, sym, ap, ◌∙◌, subst, subst₂}
use native.Mathlib.Omega.{arith}
use borrow.Author.Tests.{ltb-true, ltb-false, ne_eqb}
use lib.Dec.{ltb}
use lib.ListN.{length, get_or}
use Rattle.commands.proofs.Answers.{unsound, small-room, past_two}
use Rattle.commands.specs.Answers.{read_answer, write_answer, bare, request_answer, served, read_body, side_reply}
use Rattle.commands.specs.Lengths.{Lengths}
use Rattle.commands.specs.declared.Kind.{Kind}
use Rattle.commands.specs.declared.Kind.TheVariants.{ReadWrite, ReadOnly, WriteOnly, Block, Optional, Reserved}
use Rattle.commands_laws.specs.Visits.{Visit, visit_asked, visit_answer, visit_body, visit_exchange, Heard, VisitReads, ServedHeard, ReadByRow, WriteByRow, ReadInRows, WriteInRows, ServedReply, ExchangePasses, ExchangeLength, ExchangeAccepted, VisitExchanged, ExchangesApart, VisitMisheard, OtherAddress}
use Rattle.frame.specs.Transactions.{foreign, read_bytes, reply_of}
use Rattle.frame.specs.declared.Request.{Request}
use Rattle.frame.specs.declared.Request.TheVariants.{Read}
use Rattle.frame_laws.proofs.Replies.{accepts_right, exchange_right, word_exchange, block_exchange, word_bytes, command_misheard, two_exchanges}
use Rattle.frame_laws.proofs.Requests.{read_is, write_is, refused_is}
use Rattle.frame_laws.specs.Exchanges.{exchange_of, FarApart}
use Rattle.pec.proofs.Table.{value_at}
use Rattle.pec.specs.Table.{values_below}
use Rattle.pec.specs.Messages.{Right}
use Rattle.rooms.specs.Rooms.{Bytes}

pub served_heard : ServedHeard
served_heard v h = go v.side.sound refl (ltb v.room v.side.least) refl
  where
    go : (b : Bool) → v.side.sound ≡ b → (small : Bool) → ltb v.room v.side.least ≡ small → Heard v
    go false e small q = absurd (true≢false (sym h ∙ ap (λ (n : ℕ). served n) (unsound v.side (visit_asked v) v.room e)))
    go true e true q = absurd (true≢false (sym h ∙ ap (λ (n : ℕ). served n) (small-room v.side (visit_asked v) v.room e (ltb-true _ _ q))))
    go true e false q = (e, ltb-false _ _ q)

-- ---- rows

by_request : (v : Visit) {request : Request} → Heard v → visit_asked v ≡ request → visit_answer v ≡ request_answer v.side request
by_request v h e = past_two v.side (visit_asked v) v.room h.0 h.1 ∙ ap (λ (q : Request). request_answer v.side q) e

pub read_asked : (v : Visit) (command : ℕ) → VisitReads v command → visit_asked v ≡ Read command
read_asked v command r = (read_is v.side.address v.read v.bytes command).1 r

pub read_by_row : ReadByRow
read_by_row v command h r = by_request v h (read_asked v command r)

pub write_by_row : WriteByRow
write_by_row v command word checked h w = by_request v h ((write_is v.side.address v.read v.bytes command word checked).1 w)

in_rows : (f : ℕ → ℕ) (command : ℕ) (rows : List ℕ) → values_below 256 f ≡ rows → command < 256 → f command ≡ get_or rows command 0
in_rows f command rows e l = sym (value_at f 256 command l) ∙ ap (λ (r : List ℕ). get_or r command 0) e

pub read_in_rows : ReadInRows
read_in_rows v command rows e l h r = read_by_row v command h r ∙ in_rows (λ n. read_answer v.side n (v.side.kinds n)) command rows e l

pub write_in_rows : WriteInRows
write_in_rows v command word checked rows e l h w =
    write_by_row v command word checked h w
    ∙ ap (λ (n : ℕ). cond (bare v.side checked) 4 n) (in_rows (λ n. write_answer (v.side.kinds n)) command rows e l)

pub other_address : OtherAddress
other_address v other rest h b n =
    by_request v h ((refused_is v.side.address v.read v.bytes 3).1 (inl (refl, ap (foreign v.side.address) b ∙ elsewhere)))
  where
    elsewhere : foreign v.side.address (other ∷ rest) ≡ true
    elsewhere = simp (ne_eqb other v.side.address n, ne_eqb (length (other ∷ rest)) 0 (λ e. omega (arith, e)))

-- ---- served replies

-- the answer of the row is served, too
pub row_served : (v : Visit) (command : ℕ) → VisitReads v command → served (visit_answer v) ≡ true → served (read_answer v.side command (v.side.kinds command)) ≡ true
row_served v command r h = ap (λ (n : ℕ). served n) (sym (read_by_row v command (served_heard v h) r)) ∙ h

pub served_reply : ServedReply
served_reply v command r h =
    ap (λ (q : Request). side_reply v.side v.bytes q (visit_answer v)) (read_asked v command r)
    ∙ ap (λ (b : Bool). cond b (reply_of v.bytes (visit_body v command)) []) h

-- what a reader sent followed by what it heard
pub whole : (v : Visit) (command : ℕ) → VisitReads v command → served (visit_answer v) ≡ true
    → visit_exchange v ≡ exchange_of (read_bytes v.side.address command) (visit_body v command)
whole v command r h =
    ap (λ (x : List ℕ). v.bytes ++ x) (served_reply v command r h)
    ∙ ap (λ (b : List ℕ). exchange_of b (visit_body v command)) r.1

pub exchange_passes : ExchangePasses
exchange_passes v command r h = subst Right (sym (whole v command r h)) (exchange_right (read_bytes v.side.address command) (visit_body v command))

-- any row but that of optional commands
abbrev built : Kind → Bool
built Optional = false
built Reserved = true
built Block = true
built ReadOnly = true
built ReadWrite = true
built WriteOnly = true

pub exchange_length : ExchangeLength
exchange_length v command r h short =
    subst (λ (x : List ℕ). (v.side.kinds command ≡ Optional → ⊥) × Lengths (v.side.kinds command) (length x)) (sym (whole v command r h))
    (go (v.side.kinds command) refl (row_served v command r h))
  where
    go : (k : Kind) → v.side.kinds command ≡ k → served (read_answer v.side command k) ≡ true
        → (k ≡ Optional → ⊥) × Lengths k (length (exchange_of (read_bytes v.side.address command) (read_body v.side command k)))
    go Block q e = (λ z. true≢false (ap built z), block_exchange v.side.address command (v.side.block command) (short q).0 (short q).1)
    go ReadWrite q e = (λ z. true≢false (ap built z), word_exchange v.side.address command (v.side.word command))
    go ReadOnly q e = (λ z. true≢false (ap built z), word_exchange v.side.address command (v.side.word command))
    go WriteOnly q e = absurd (true≢false (sym e))
    go Optional q e = absurd (true≢false (sym e))
    go Reserved q e = absurd (true≢false (sym e))

-- a row's exchanges have 2 to 37 bytes, but for optional commands'
two_to_37 : (k : Kind) (n : ℕ) → (k ≡ Optional → ⊥) × Lengths k n → (2 ≤ n) × (n ≤ 37)
two_to_37 ReadWrite n (built_in, l) = (omega (arith, l), omega (arith, l))
two_to_37 ReadOnly n (built_in, l) = (omega (arith, l), omega (arith, l))
two_to_37 Block n (built_in, l) = (omega (arith, l.0), l.1)
two_to_37 WriteOnly n (built_in, l) = absurd l
two_to_37 Optional n (built_in, l) = absurd (built_in refl)
two_to_37 Reserved n (built_in, l) = absurd l

pub exchange_accepted : ExchangeAccepted
exchange_accepted v command r h short =
    let n = two_to_37 (v.side.kinds command) (length (visit_exchange v)) (exchange_length v command r h short) in
    (accepts_right (visit_exchange v) n.0 n.1).1 (exchange_passes v command r h)

-- ---- exchanges

body_bytes : (v : Visit) (x : VisitExchanged v) (k : Kind) → Bytes (read_body v.side x.command k)
body_bytes v x Block = x.block
body_bytes v x ReadWrite = word_bytes (v.side.word x.command) x.word
body_bytes v x ReadOnly = word_bytes (v.side.word x.command) x.word
body_bytes v x WriteOnly = tt
body_bytes v x Optional = tt
body_bytes v x Reserved = tt

request_bytes : (v : Visit) (x : VisitExchanged v) → Bytes (read_bytes v.side.address x.command)
request_bytes v x = (omega (arith, x.address), (x.a_byte, (omega (arith, x.address), tt)))

pub exchanges_apart : ExchangesApart
exchanges_apart v w x y l d =
    let e = whole v x.command x.reads x.is-served in
    let f = whole w y.command y.reads y.is-served in
    subst₂ FarApart (sym e) (sym f)
    (two_exchanges (read_bytes v.side.address x.command) (visit_body v x.command) (read_bytes w.side.address y.command) (visit_body w y.command)
    (request_bytes v x) (body_bytes v x (v.side.kinds x.command)) (request_bytes w y) (body_bytes w y (w.side.kinds y.command))
    (ap (λ (a : List ℕ). length a) (sym e) ∙ l ∙ ap (λ (a : List ℕ). length a) f)
    (λ q. d (e ∙ q ∙ sym f)))

pub misheard : VisitMisheard
misheard v x sent h differ right =
    let heard = x.command in
    let e = served_reply v heard x.reads x.is-served ∙ ap (λ (b : List ℕ). reply_of b (visit_body v heard)) x.reads.1 in
    command_misheard v.side.address sent heard _ x.address h x.a_byte (body_bytes v x (v.side.kinds heard)) differ
    (subst (λ (r : List ℕ). Right (read_bytes v.side.address sent ++ r)) e right)
