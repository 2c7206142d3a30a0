-- Every reply is right, at its length; it tells what it carries; and a command misheard shows up.
-- Assumes nothing.
use mathlib.Core.Path.{◌≡◌, refl, sym, ap, ap₂, ◌∙◌, subst}
use mathlib.Core.Bool.{true}
use mathlib.Core.List.{List, [], ◌∷◌, ◌++◌, append_assoc}
use Prim.Native.Nat.{ℕ, ◌+◌, ◌-◌, ◌≤◌, ◌<◌}
use native.Mathlib.Omega.{arith}
use borrow.Author.Tests.{eq-eqb, eqb-true, le-ltb}
use lib.Dec.{eqb}
use lib.ListN.{length, get_or, take, length-append}
use lib.Seq.{get_or_at, take_at}
use Rattle.pec.specs.Pec.{pec_of}
use Rattle.pec.specs.Messages.{ends_in_pec, Right, exchange_check}
use Rattle.std.proofs.Common.{Ok}
use Rattle.pec.proofs.Bounds.{pec_lt}
use Rattle.pec_laws.specs.Faults.{Rights}
use Rattle.rooms.specs.Rooms.{Bytes}
use Rattle.pec_laws.proofs.Theorems.{misheard, four_bits, even_bits, no_burst, two_bits_to_37}
use Rattle.frame.specs.Transactions.{read_bytes, with_pec, word_body, block_body, reply_of}
use Rattle.frame.proofs.Replies.{reply_length}
use Rattle.frame_laws.specs.Exchanges.{exchange_of, AcceptsRight, ExchangeRight, WordExchange, BodyExchange, BlockExchange, WordBack, TwoExchanges, CommandMisheard}

-- ---- every reply is right

-- a message followed by one byte ends in its PEC exactly if that byte is it
ends_in : (xs : List ℕ) (p : ℕ) → ends_in_pec (xs ++ p ∷ []) ≡ eqb p (pec_of xs)
unfolding ends_in_pec
ends_in xs p =
    let whole = xs ++ p ∷ [] in
    let last : length whole - 1 ≡ length xs = omega (arith, length-append xs (p ∷ [])) in
    ap (λ (n : ℕ). eqb (get_or whole n 0) (pec_of (take n whole))) last
    ∙ ap₂ (λ (q : ℕ) (t : List ℕ). eqb q (pec_of t)) (get_or_at xs p [] 0 (length xs) refl) (take_at xs (p ∷ []) (length xs) refl)

pub last_is : (xs : List ℕ) (p : ℕ) → ends_in_pec (xs ++ p ∷ []) ≡ true → p ≡ pec_of xs
last_is xs p e = eqb-true p (pec_of xs) (sym (ends_in xs p) ∙ e)

-- any message with its PEC is right
pub ends_right : (xs : List ℕ) → Right (with_pec xs)
ends_right xs = (omega (arith, length-append xs (pec_of xs ∷ [])), ends_in xs (pec_of xs) ∙ eq-eqb (pec_of xs) (pec_of xs) refl)

-- the exchange check of 2 to 37 bytes
inside : (message : List ℕ) → 2 ≤ length message → length message ≤ 37 → exchange_check message ≡ Ok (ends_in_pec message)
inside message h l = simp (le-ltb (length message) 2 h, le-ltb 37 (length message) l)

pub accepts_right : AcceptsRight
accepts_right message h l = (
  λ e. let same = inside message h l in (omega (arith, h), cc),
  λ r. inside message h l ∙ ap Ok r.1,
)

-- what a reader sent followed by what it heard is right
pub exchange_right : ExchangeRight
unfolding reply_of
exchange_right request body = subst Right (append_assoc request body (pec_of (request ++ body) ∷ [])) (ends_right (request ++ body))

-- a word exchange has 6 bytes
pub word_exchange : WordExchange
unfolding reply_of
word_exchange address command w = refl

-- one of any body has 4 more than it
pub body_exchange : BodyExchange
body_exchange address command body = let l = reply_length (read_bytes address command) body in omega (arith, l)

-- a block exchange 5 to 37
pub block_exchange : BlockExchange
block_exchange address command body h k = let l = body_exchange address command body in (omega (arith, l, h), omega (arith, l, k))

-- ---- a reply tells what it carries

-- low byte first, then the high one: the word
pub word_back : WordBack
unfolding reply_of
word_back request w = omega arith

-- ---- requests and replies are bytes

pub bytes_joined : (xs ys : List ℕ) → Bytes xs → Bytes ys → Bytes (xs ++ ys)
bytes_joined [] ys h k = k
bytes_joined (x ∷ xs) ys h k = (h.0, bytes_joined xs ys h.1 k)

pub word_bytes : (w : ℕ) → w < 65536 → Bytes (word_body w)
word_bytes w h = (omega arith, (omega arith, tt))

pub block_bytes : (text : List ℕ) → length text ≤ 32 → Bytes text → Bytes (block_body text)
block_bytes text l h = (omega arith, h)

pub reply_bytes : (request body : List ℕ) → Bytes body → Bytes (reply_of request body)
unfolding reply_of
reply_bytes request body h = bytes_joined body (pec_of (request ++ body) ∷ []) h (pec_lt (request ++ body), tt)

-- ---- a command misheard shows up

pub command_misheard : CommandMisheard
command_misheard address sent heard body ha hs hh hb d =
    let reply = reply_bytes (read_bytes address heard) body hb in
    misheard (address ∷ []) ((address + 1) ∷ reply_of (read_bytes address heard) body) heard sent
    (omega arith, (hh, (omega arith, reply)))
    (omega arith, (hs, (omega arith, reply)))
    (exchange_right (read_bytes address heard) body) (λ e. d (sym e))

-- ---- two different exchanges of one length are two different right messages

pub two_exchanges : TwoExchanges
two_exchanges request body request' body' h k h' k' l d =
    let b = bytes_joined request _ h (reply_bytes request body k) in
    let b' = bytes_joined request' _ h' (reply_bytes request' body' k') in
    let rights : Rights (exchange_of request body) (exchange_of request' body') = ((b, b', l), exchange_right request body, exchange_right request' body', d) in
    record {
      four = four_bits _ _ rights;
      even = even_bits _ _ rights;
      no_burst = no_burst _ _ rights;
      two = two_bits_to_37 _ _ rights;
    }
