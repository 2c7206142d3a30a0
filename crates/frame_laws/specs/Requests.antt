-- Which bytes and marks give which request, at any address: the theorems of `proofs/Requests.antt`.
-- Assumes nothing.
use Rattle.std.specs.Prelude.{ℕ, ◌≤◌, ◌<◌, ◌≡◌, Bool, true, false, cond, List, ◌⊎◌, ◌↔◌, length}
use Rattle.words.specs.Words.{joined}
use Rattle.pec.specs.Messages.{Right, bits_apart}
use Rattle.pec_laws.specs.Faults.{Pair}
use Rattle.rooms.specs.Rooms.{Bytes}
use Rattle.frame.specs.declared.Request.{Request}
use Rattle.frame.specs.declared.Request.TheVariants.{Refused, Read, Write}
use Rattle.frame.specs.Transactions.{foreign, misshapen, miscoded, request_of, with_pec, read_bytes, write_bytes}

-- a refusal's number is the lowest of the three whose condition holds
abbrev pub Lowest : Bool → Bool → Bool → ℕ → Type 0
Lowest three four five n =
    ((n ≡ 3) × (three ≡ true))
    ⊎ (((n ≡ 4) × (three ≡ false) × (four ≡ true)) ⊎ ((n ≡ 5) × (three ≡ false) × (four ≡ false) × (five ≡ true)))

-- the bytes of a write of a word, checked or not
abbrev pub WriteBytes : ℕ → ℕ → ℕ → Bool → List ℕ → Type 0
WriteBytes address command word checked bytes =
    (low : ℕ) × (high : ℕ) × (word ≡ joined low high)
    × (bytes ≡ cond checked (with_pec (write_bytes address command low high)) (write_bytes address command low high))

-- a refusal carries 3, 4 or 5: exactly the lowest whose condition holds
abbrev pub RefusedIs : Type 0
RefusedIs =
    (address : ℕ) (read : Bool) (bytes : List ℕ) (n : ℕ)
    → (request_of address read bytes ≡ Refused n) ↔ Lowest (foreign address bytes) (misshapen address read bytes) (miscoded read bytes) n

-- so a number from 3 to 5
abbrev pub RefusedNumber : Type 0
RefusedNumber = (address : ℕ) (read : Bool) (bytes : List ℕ) (n : ℕ) → request_of address read bytes ≡ Refused n → (3 ≤ n) × (n ≤ 5)

-- Read: exactly address, command, address + 1
abbrev pub ReadIs : Type 0
ReadIs =
    (address : ℕ) (read : Bool) (bytes : List ℕ) (command : ℕ)
    → (request_of address read bytes ≡ Read command) ↔ ((read ≡ true) × (bytes ≡ read_bytes address command))

-- Write: address, command, low, high, with or without PEC
abbrev pub WriteIs : Type 0
WriteIs =
    (address : ℕ) (read : Bool) (bytes : List ℕ) (command word : ℕ) (checked : Bool)
    → (request_of address read bytes ≡ Write command word checked) ↔ ((read ≡ false) × WriteBytes address command word checked bytes)

-- a request's fields hold what their types let them hold
abbrev pub RequestFits : Request → Type 0
RequestFits (Refused n) = n < 256
RequestFits (Read command) = command < 256
RequestFits (Write command word checked) = (command < 256) × (word < 65536)

-- bytes give such a request
abbrev pub AskedFits : Type 0
AskedFits = (address : ℕ) (read : Bool) (bytes : List ℕ) → Bytes bytes → RequestFits (request_of address read bytes)

-- a right five-byte write altered in one to three bits is never taken
abbrev pub Altered : Type 0
Altered =
    (address : ℕ) (sent heard : List ℕ) → Pair sent heard → Right sent → length sent ≡ 5 → 1 ≤ bits_apart sent heard → bits_apart sent heard ≤ 3
    → (request_of address false heard ≡ Refused 3) ⊎ (request_of address false heard ≡ Refused 5)
