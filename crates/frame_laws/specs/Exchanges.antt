-- A reader's exchanges, with any request and any body: the theorems of `proofs/Replies.antt`.
-- Assumes nothing.
use Rattle.std.specs.Prelude.{ℕ, ◌+◌, ◌-◌, ◌%◌, ◌≤◌, ◌<◌, true, ◌≡◌, ◌⊎◌, ◌↔◌, List, ◌++◌, length, get_or, Ok}
use Rattle.words.specs.Words.{joined}
use Rattle.pec.specs.Messages.{Right, exchange_check, bits_apart}
use Rattle.pec_laws.specs.Places.{Apart}
use Rattle.rooms.specs.Rooms.{Bytes}
use Rattle.frame.specs.Transactions.{read_bytes, word_body, reply_of}

-- a reader's exchange is what it sent followed by what it heard
abbrev pub exchange_of : List ℕ → List ℕ → List ℕ
exchange_of request body = request ++ reply_of request body

-- the exchange check accepts a message: it isn't refused, and it is right
abbrev pub Accepts : List ℕ → Type 0
Accepts message = exchange_check message ≡ Ok true

-- of 2 to 37 bytes, exactly the right ones
abbrev pub AcceptsRight : Type 0
AcceptsRight = (message : List ℕ) → 2 ≤ length message → length message ≤ 37 → Accepts message ↔ Right message

-- every exchange is right
abbrev pub ExchangeRight : Type 0
ExchangeRight = (request body : List ℕ) → Right (exchange_of request body)

-- a word exchange has 6 bytes
abbrev pub WordExchange : Type 0
WordExchange = (address command word : ℕ) → length (exchange_of (read_bytes address command) (word_body word)) ≡ 6

-- one of any body has 4 bytes more
abbrev pub BodyExchange : Type 0
BodyExchange = (address command : ℕ) (body : List ℕ) → length (exchange_of (read_bytes address command) body) ≡ length body + 4

-- and a block exchange, of a body of 1 to 33 bytes, 5 to 37
abbrev pub BlockExchange : Type 0
BlockExchange =
    (address command : ℕ) (body : List ℕ) → 1 ≤ length body → length body ≤ 33
    → (5 ≤ length (exchange_of (read_bytes address command) body)) × (length (exchange_of (read_bytes address command) body) ≤ 37)

-- a word reply's first two bytes, low byte first, are the word
abbrev pub WordBack : Type 0
WordBack =
    (request : List ℕ) (word : ℕ) → joined (get_or (reply_of request (word_body word)) 0 0) (get_or (reply_of request (word_body word)) 1 0) ≡ word

-- how two different right messages of one length differ: up to 15 bytes in at least four bits; of any length in an even number of bits,
-- never all within eight neighbouring places; up to 37 bytes, if in only two, these stand 127 or 254 places apart
pub record FarApart (xs ys : List ℕ) : Type 0 where
  pub four : length xs ≤ 15 → 4 ≤ bits_apart xs ys
  pub even : bits_apart xs ys % 2 ≡ 0
  pub no_burst : (k : ℕ) → ((i : ℕ) → Apart xs ys i → (k ≤ i) × (i < k + 8)) → ⊥
  pub two : length xs ≤ 37 → bits_apart xs ys ≡ 2 → (i j : ℕ) → i < j → Apart xs ys i → Apart xs ys j → (j - i ≡ 127) ⊎ (j - i ≡ 254)

-- two different exchanges of one length differ so
abbrev pub TwoExchanges : Type 0
TwoExchanges =
    (request body request' body' : List ℕ) → Bytes request → Bytes body → Bytes request' → Bytes body'
    → length (exchange_of request body) ≡ length (exchange_of request' body')
    → (exchange_of request body ≡ exchange_of request' body' → ⊥)
    → FarApart (exchange_of request body) (exchange_of request' body')

-- the reader sent one command and another was heard: what it sent followed by what it heard isn't right
abbrev pub CommandMisheard : Type 0
CommandMisheard =
    (address sent heard : ℕ) (body : List ℕ) → address < 255 → sent < 256 → heard < 256 → Bytes body → (sent ≡ heard → ⊥)
    → Right (read_bytes address sent ++ reply_of (read_bytes address heard) body) → ⊥
