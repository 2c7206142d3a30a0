-- Which bytes and marks give which request: the numbers 3 to 5, lowest first; and a right write that was altered isn't taken.
-- Assumes nothing.
use mathlib.Core.Path.{◌≡◌, refl, sym, ap, ◌∙◌, subst}
use mathlib.Core.Bool.{Bool, true, false, cond, true≢false}
use mathlib.Core.List.{List, [], ◌∷◌}
use mathlib.Core.Logic.{◌⊎◌, inl, inr}
use Prim.Native.Nat.{ℕ, ◌+◌, ◌≤◌, ◌<◌}
use native.Mathlib.Omega.{arith}
use borrow.Author.Tests.{eq-eqb, eqb-true, ne_eqb, not-false}
use lib.Dec.{eqb}
use lib.ListN.{length, get_or}
use Rattle.pec.specs.Messages.{ends_in_pec}
use Rattle.pec.specs.Pec.{pec_of}
use Rattle.pec_laws.proofs.Theorems.{caught}
use Rattle.frame.specs.declared.Request.{Request}
use Rattle.frame.specs.declared.Request.TheVariants.{Refused, Read, Write}
use Rattle.frame.specs.Transactions.{foreign, misshapen, miscoded, write_of, request_of, read_bytes, write_bytes}
use Rattle.frame_laws.specs.Requests.{Lowest, WriteBytes, RefusedIs, RefusedNumber, ReadIs, WriteIs, RequestFits, AskedFits, Altered}
use Rattle.frame_laws.proofs.Replies.{ends_right, last_is}
use Rattle.rooms.specs.Rooms.{Bytes}
use Rattle.words.specs.Words.{joined}

-- ---- the numbers, lowest first

-- the first of the three numbers whose condition holds, else what is wanted for
abbrev first : Bool → Bool → Bool → Request → Request
first three four five wanted = cond three (Refused 3) (cond four (Refused 4) (cond five (Refused 5) wanted))

-- what is wanted for
abbrev wanted : Bool → List ℕ → Request
wanted read bytes = cond read (Read (get_or bytes 1 0)) (write_of bytes (eqb (length bytes) 5))

-- and that is no refusal
wanted_served : (read : Bool) (bytes : List ℕ) (n : ℕ) → wanted read bytes ≡ Refused n → ⊥
wanted_served true bytes n e = let z : ◌≡◌ {A = ℕ} 0 1 = cc in omega arith
wanted_served false bytes n e = let z : ◌≡◌ {A = ℕ} 0 1 = cc in omega arith

lowest : (three four five read : Bool) (bytes : List ℕ) (n : ℕ) → first three four five (wanted read bytes) ≡ Refused n → Lowest three four five n
lowest true four five read bytes n e = inl (cc, refl)
lowest false true five read bytes n e = inr (inl (cc, refl, refl))
lowest false false true read bytes n e = inr (inr (cc, refl, refl, refl))
lowest false false false read bytes n e = absurd (wanted_served read bytes n e)

refused : (three four five : Bool) (a : Request) (n : ℕ) → Lowest three four five n → first three four five a ≡ Refused n
refused three four five a n (inl (e, t)) = simp t (ap Refused (sym e))
refused three four five a n (inr (inl (e, t, f))) = simp (t, f) (ap Refused (sym e))
refused three four five a n (inr (inr (e, t, f, g))) = simp (t, f, g) (ap Refused (sym e))

-- a refusal carries 3, 4 or 5: exactly the lowest whose condition holds
pub refused_is : RefusedIs
unfolding request_of
refused_is address read bytes n = (
  lowest (foreign address bytes) (misshapen address read bytes) (miscoded read bytes) read bytes n,
  refused (foreign address bytes) (misshapen address read bytes) (miscoded read bytes) (wanted read bytes) n,
)

pub refused_number : RefusedNumber
refused_number address read bytes n e = go ((refused_is address read bytes n).0 e)
  where
    go : Lowest (foreign address bytes) (misshapen address read bytes) (miscoded read bytes) n → (3 ≤ n) × (n ≤ 5)
    go (inl h) = (omega (arith, h.0), omega (arith, h.0))
    go (inr (inl h)) = (omega (arith, h.0), omega (arith, h.0))
    go (inr (inr h)) = (omega (arith, h.0), omega (arith, h.0))

-- ---- what is taken: exactly these bytes

-- none of the three conditions holds of it
abbrev Free : ℕ → Bool → List ℕ → Type 0
Free address read bytes = (foreign address bytes ≡ false) × (misshapen address read bytes ≡ false) × (miscoded read bytes ≡ false)

free : (address : ℕ) (read : Bool) (bytes : List ℕ) (r : Request) → request_of address read bytes ≡ r → ((n : ℕ) → r ≡ Refused n → ⊥)
    → Free address read bytes × (wanted read bytes ≡ r)
unfolding request_of
free address read bytes r = go (foreign address bytes) (misshapen address read bytes) (miscoded read bytes) (wanted read bytes)
  where
    go : (three four five : Bool) (a : Request) → first three four five a ≡ r → ((n : ℕ) → r ≡ Refused n → ⊥)
        → ((three ≡ false) × (four ≡ false) × (five ≡ false)) × (a ≡ r)
    go true four five a e n = absurd (n 3 (sym e))
    go false true five a e n = absurd (n 4 (sym e))
    go false false true a e n = absurd (n 5 (sym e))
    go false false false a e n = ((refl, refl, refl), e)

-- Read: exactly address, command, address + 1
pub read_is : ReadIs
unfolding request_of
read_is address read bytes command =
    (λ e. let f = free address read bytes (Read command) e served in to read bytes f.0 f.1, from)
  where
    served : (n : ℕ) → Read command ≡ Refused n → ⊥
    served n e = let z : ◌≡◌ {A = ℕ} 0 1 = cc in omega arith

    to : (read : Bool) (bytes : List ℕ) → Free address read bytes → wanted read bytes ≡ Read command → (read ≡ true) × (bytes ≡ read_bytes address command)
    to false bytes f e = absurd (let z : ◌≡◌ {A = ℕ} 0 1 = cc in omega arith)
    to true [] f e = absurd (true≢false f.0)
    to true (a ∷ []) f e = absurd (true≢false f.1)
    to true (a ∷ b ∷ []) f e = absurd (true≢false f.1)
    to true (a ∷ b ∷ r ∷ []) f e =
        let own = eqb-true a address (not-false _ f.0) in
        let last = eqb-true r (address + 1) (not-false _ f.1) in
        (refl, cc)
    to true (a ∷ b ∷ r ∷ d ∷ s) f e = absurd (true≢false (simp (ne_eqb (length (a ∷ b ∷ r ∷ d ∷ s)) 3 (λ q. omega arith)) at f.1))

    from : (read ≡ true) × (bytes ≡ read_bytes address command) → request_of address read bytes ≡ Read command
    from (r, b) = simp (r, b, eq-eqb address address refl, eq-eqb (address + 1) (address + 1) refl)

-- Write: address, command, low, high, with or without PEC
pub write_is : WriteIs
unfolding request_of
write_is address read bytes command word checked =
    (λ e. let f = free address read bytes (Write command word checked) e served in to read bytes checked f.0 f.1, from checked)
  where
    served : (n : ℕ) → Write command word checked ≡ Refused n → ⊥
    served n e = let z : ◌≡◌ {A = ℕ} 0 1 = cc in omega arith

    to : (read : Bool) (bytes : List ℕ) (checked : Bool) → Free address read bytes → wanted read bytes ≡ Write command word checked
        → (read ≡ false) × WriteBytes address command word checked bytes
    to true bytes checked f e = absurd (let z : ◌≡◌ {A = ℕ} 0 1 = cc in omega arith)
    to false [] checked f e = absurd (true≢false f.0)
    to false (a ∷ []) checked f e = absurd (true≢false f.1)
    to false (a ∷ b ∷ []) checked f e = absurd (true≢false f.1)
    to false (a ∷ b ∷ l ∷ []) checked f e = absurd (true≢false f.1)
    to false (a ∷ b ∷ l ∷ h ∷ []) true f e = absurd (let z : ◌≡◌ {A = ℕ} 0 1 = cc in omega arith)
    to false (a ∷ b ∷ l ∷ h ∷ []) false f e =
        let own = eqb-true a address (not-false _ f.0) in
        (refl, (l, h, cc, cc))
    to false (a ∷ b ∷ l ∷ h ∷ p ∷ []) false f e = absurd (let z : ◌≡◌ {A = ℕ} 0 1 = cc in omega arith)
    to false (a ∷ b ∷ l ∷ h ∷ p ∷ []) true f e =
        let own = eqb-true a address (not-false _ f.0) in
        let check = last_is (write_bytes a b l h) p (not-false _ f.2) in
        (refl, (l, h, cc, cc))
    to false (a ∷ b ∷ l ∷ h ∷ p ∷ d ∷ s) checked f e =
        let n = length (a ∷ b ∷ l ∷ h ∷ p ∷ d ∷ s) in
        absurd (true≢false (simp (ne_eqb n 4 (λ q. omega arith), ne_eqb n 5 (λ q. omega arith)) at f.1))

    from : (checked : Bool) → (read ≡ false) × WriteBytes address command word checked bytes → request_of address read bytes ≡ Write command word checked
    from false (r, (l, h, w, b)) = simp (r, b, w, eq-eqb address address refl)
    from true (r, (l, h, w, b)) = simp (r, b, w, eq-eqb address address refl, (ends_right (write_bytes address command l h)).1)

-- ---- what bytes ask for fits

refused_small : (three four five : Bool) (n : ℕ) → Lowest three four five n → n < 256
refused_small three four five n (inl t) = omega (arith, t.0)
refused_small three four five n (inr (inl t)) = omega (arith, t.0)
refused_small three four five n (inr (inr t)) = omega (arith, t.0)

written_small : (address command low high word : ℕ) (more : List ℕ) → Bytes (address ∷ command ∷ low ∷ high ∷ more) → word ≡ joined low high
    → (command < 256) × (word < 65536)
written_small address command low high word more h w = (h.1.0, omega (arith, w, h.1.1.0, h.1.1.1.0))

pub asked_fits : AskedFits
asked_fits address read bytes h = go (request_of address read bytes) refl
  where
    written : (checked : Bool) (command word : ℕ) → WriteBytes address command word checked bytes → (command < 256) × (word < 65536)
    written true command word (l, u, w, b) = written_small address command l u word (pec_of (write_bytes address command l u) ∷ []) (subst Bytes b h) w
    written false command word (l, u, w, b) = written_small address command l u word [] (subst Bytes b h) w

    go : (q : Request) → request_of address read bytes ≡ q → RequestFits q
    go (Refused n) e = refused_small (foreign address bytes) (misshapen address read bytes) (miscoded read bytes) n ((refused_is address read bytes n).0 e)
    go (Read command) e = (subst Bytes ((read_is address read bytes command).0 e).1 h).1.0
    go (Write command word checked) e = written checked command word ((write_is address read bytes command word checked).0 e).1

-- ---- a right five-byte write altered in one to three bits is never taken

pub altered : Altered
altered address sent heard p r l n m = go (ends_in_pec heard) refl (foreign address heard) refl
  where
    five : length heard ≡ 5
    five = sym p.2 ∙ l

    go : (right : Bool) → ends_in_pec heard ≡ right → (three : Bool) → foreign address heard ≡ three
        → (request_of address false heard ≡ Refused 3) ⊎ (request_of address false heard ≡ Refused 5)
    go true e three t = absurd (caught sent heard p r (omega (arith, l)) n m (omega (arith, five), e))
    go false e true t = inl ((refused_is address false heard 3).1 (inl (refl, t)))
    go false e false t =
        let size = eq-eqb _ _ five in
        let four = ne_eqb (length heard) 4 (λ q. omega (arith, five)) in
        inr ((refused_is address false heard 5).1 (inr (inr (refl, t, simp (four, size), simp (size, e)))))
