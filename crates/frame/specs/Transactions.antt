-- Document 01, Answer numbers 3 to 5 and Transactions, for any address, given by its write byte: for the pack 0x16.
-- Assumes nothing.
use Rattle.std.specs.Prelude.{ℕ, ◌+◌, Bool, cond, ◌&&◌, ◌||◌, not, List, [], ◌∷◌, ◌++◌, eqb, length, get_or}
use Rattle.words.specs.Words.{low_of, high_of, joined}
use Rattle.pec.specs.Pec.{pec_of}
use Rattle.pec.specs.Messages.{ends_in_pec}
use Rattle.frame.specs.declared.Request.{Request}
use Rattle.frame.specs.declared.Request.TheVariants.{Refused, Read, Write}

-- a message with its PEC (RULES 5.4)
abbrev pub with_pec : List ℕ → List ℕ
with_pec bytes = bytes ++ pec_of bytes ∷ []

-- 3: empty, or first byte isn't the address's write byte (RULES 1.3)
abbrev pub foreign : ℕ → List ℕ → Bool
foreign address bytes = eqb (length bytes) 0 || not (eqb (get_or bytes 0 0) address)

-- Read: exactly address, command, address + 1 (RULES 5.2)
abbrev pub read_bytes : ℕ → ℕ → List ℕ
read_bytes address command = address ∷ command ∷ (address + 1) ∷ []

-- so it has 3 bytes, and the last is address + 1 (RULES 5.2)
abbrev pub read_form : ℕ → List ℕ → Bool
read_form address bytes = eqb (length bytes) 3 && eqb (get_or bytes 2 0) (address + 1)

-- Write: address, command, low, high, with or without PEC (RULES 5.3)
abbrev pub write_bytes : ℕ → ℕ → ℕ → ℕ → List ℕ
write_bytes address command low high = address ∷ command ∷ low ∷ high ∷ []

-- so it has 4 or 5 bytes (RULES 5.3)
abbrev pub write_form : List ℕ → Bool
write_form bytes = eqb (length bytes) 4 || eqb (length bytes) 5

-- 4: wrong size or form, by the driver's mark (RULES 1.4)
abbrev pub misshapen : ℕ → Bool → List ℕ → Bool
misshapen address read bytes = not (cond read (read_form address bytes) (write_form bytes))

-- 5: five-byte write, PEC wrong (RULES 1.5)
abbrev pub miscoded : Bool → List ℕ → Bool
miscoded read bytes = not read && (eqb (length bytes) 5 && not (ends_in_pec bytes))

-- a write's command, its word, low byte first, and whether a PEC stood there (RULES 5.3)
abbrev pub write_of : List ℕ → Bool → Request
write_of bytes checked = Write (get_or bytes 1 0) (joined (get_or bytes 2 0) (get_or bytes 3 0)) checked

-- what the bytes and the mark ask for; the lowest of the three numbers whose condition holds comes first (RULES 2.1)
unfoldable pub request_of : ℕ → Bool → List ℕ → Request
request_of address read bytes =
    cond (foreign address bytes) (Refused 3)
    (cond (misshapen address read bytes) (Refused 4)
    (cond (miscoded read bytes) (Refused 5)
    (cond read (Read (get_or bytes 1 0)) (write_of bytes (eqb (length bytes) 5)))))

-- word replies are low byte first (RULES 5.5)
abbrev pub word_body : ℕ → List ℕ
word_body w = low_of w ∷ high_of w ∷ []

-- block replies are count, bytes (RULES 5.6)
abbrev pub block_body : List ℕ → List ℕ
block_body text = length text ∷ text

-- every reply ends in PEC over request and reply (RULES 5.4)
unfoldable pub reply_of : List ℕ → List ℕ → List ℕ
reply_of request body = body ++ pec_of (request ++ body) ∷ []
