-- The PEC of a right message is 0; and the PEC tells apart what stood before.
-- Assumes nothing.
use mathlib.Core.Path.{◌≡◌, refl, sym, ap, ◌∙◌}
use mathlib.Core.List.{List, [], ◌∷◌, ◌++◌}
use mathlib.Core.Logic.{◌↔◌}
use Prim.Native.Nat.{ℕ, suc, ◌-◌, ◌<◌}
use native.Mathlib.Omega.{arith}
use borrow.Author.Tests.{eqb-true, eq-eqb}
use lib.Dec.{lit<}
use lib.ListN.{length, take, get_or, drop_of_length-le}
use lib.Seq.{split_at}
use lib.Bits.{bit_xor, xor_lt, xor_self, xor_comm}
use Rattle.pec.specs.Pec.{bit_step, byte_step, pec_from, pec_of}
use Rattle.pec.specs.Messages.{ends_in_pec}
use Rattle.pec.proofs.Bounds.{bit_step_lt, byte_step_lt, pec_from_lt, pec_lt}
use Rattle.pec.proofs.Join.{join}
use Rattle.rooms.proofs.Rooms.{byte_at}
use Rattle.rooms.specs.Rooms.{Bytes}
use Rattle.pec_laws.specs.Faults.{RightIsNone}
use Rattle.pec_laws.proofs.Xor.{xor_none, xor_cancel, byte_step_xor}
use Rattle.pec_laws.proofs.Orbit.{bit_step_none}

byte_step_none : (s : ℕ) → s < 256 → byte_step s ≡ 0 → s ≡ 0
unfolding byte_step
byte_step_none s h e =
    bit_step_none s h
    (bit_step_none _ (bit_step_lt _)
    (bit_step_none _ (bit_step_lt _)
    (bit_step_none _ (bit_step_lt _)
    (bit_step_none _ (bit_step_lt _) (bit_step_none _ (bit_step_lt _) (bit_step_none _ (bit_step_lt _) (bit_step_none _ (bit_step_lt _) e)))))))

byte_step_zero : byte_step 0 ≡ 0
unfolding byte_step bit_step
byte_step_zero = refl

right_iff : (xs : List ℕ) (p : ℕ) → p < 256 → (pec_of (xs ++ p ∷ []) ≡ 0) ↔ (p ≡ pec_of xs)
unfolding pec_of pec_from
right_iff xs p h = (to, from)
  where
    to : pec_of (xs ++ p ∷ []) ≡ 0 → p ≡ pec_of xs
    to e =
        sym (xor_none (pec_of xs) p
        (byte_step_none (bit_xor (pec_of xs) p) (xor_lt 8 (pec_of xs) p (pec_lt xs) h) (join 0 xs (p ∷ []) ∙ e)))

    from : p ≡ pec_of xs → pec_of (xs ++ p ∷ []) ≡ 0
    from e =
        sym (join 0 xs (p ∷ [])) ∙ ap (λ (q : ℕ). byte_step (bit_xor (pec_of xs) q)) e ∙ ap byte_step (xor_self (pec_of xs)) ∙ byte_step_zero

pub right_is_none : RightIsNone
unfolding ends_in_pec
right_is_none xs h k = (λ r. ap pec_of whole ∙ iff.1 (eqb-true _ _ r.1), λ e. (k, eq-eqb _ _ (iff.0 (sym (ap pec_of whole) ∙ e))))
  where
    n : ℕ
    n = length xs - 1

    iff : (pec_of (take n xs ++ get_or xs n 0 ∷ []) ≡ 0) ↔ (get_or xs n 0 ≡ pec_of (take n xs))
    iff = right_iff (take n xs) (get_or xs n 0) (byte_at xs h n)

    whole : xs ≡ take n xs ++ get_or xs n 0 ∷ []
    whole = split_at xs n 0 (omega arith) ∙ ap (λ (t : List ℕ). take n xs ++ get_or xs n 0 ∷ t) (drop_of_length-le xs {i = suc n} (omega arith))

-- the byte step is one to one
byte_step_one : (s t : ℕ) → s < 256 → t < 256 → byte_step s ≡ byte_step t → s ≡ t
byte_step_one s t h k e =
    xor_none s t (byte_step_none (bit_xor s t) (xor_lt 8 s t h k) (byte_step_xor s t ∙ ap (bit_xor (byte_step s)) (sym e) ∙ xor_self (byte_step s)))

-- and so is the PEC over any bytes, in what stood before them
pec_from_one : (xs : List ℕ) (s t : ℕ) → Bytes xs → s < 256 → t < 256 → pec_from s xs ≡ pec_from t xs → s ≡ t
unfolding pec_from
pec_from_one [] s t b h k e = e
pec_from_one (x ∷ xs) s t b h k e =
    sym (xor_cancel s x)
    ∙ ap (λ (u : ℕ). bit_xor u x)
    (byte_step_one (bit_xor s x) (bit_xor t x) (xor_lt 8 s x h b.0) (xor_lt 8 t x k b.0)
    (pec_from_one xs (byte_step (bit_xor s x)) (byte_step (bit_xor t x)) b.1 (byte_step_lt (bit_xor s x)) (byte_step_lt (bit_xor t x)) e))
    ∙ xor_cancel t x

bytes_from : (us vs : List ℕ) → Bytes (us ++ vs) → Bytes vs
bytes_from [] vs b = b
bytes_from (u ∷ us) vs b = bytes_from us vs b.1

-- two messages of one PEC whose bytes agree but at one place agree there, too
pub one_byte : (us vs : List ℕ) (x y : ℕ) → Bytes (us ++ x ∷ vs) → Bytes (us ++ y ∷ vs) → pec_of (us ++ x ∷ vs) ≡ pec_of (us ++ y ∷ vs) → x ≡ y
unfolding pec_of pec_from
one_byte us vs x y bx by e =
    sym (xor_cancel x a) ∙ ap (λ (u : ℕ). bit_xor u a) (xor_comm x a ∙ met ∙ xor_comm a y) ∙ xor_cancel y a
  where
    a : ℕ
    a = pec_from 0 us

    hx : Bytes (x ∷ vs)
    hx = bytes_from us (x ∷ vs) bx

    hy : Bytes (y ∷ vs)
    hy = bytes_from us (y ∷ vs) by

    a_lt : a < 256
    a_lt = pec_from_lt 0 us (lit< tt)

    met : bit_xor a x ≡ bit_xor a y
    met =
        byte_step_one (bit_xor a x) (bit_xor a y) (xor_lt 8 a x a_lt hx.0) (xor_lt 8 a y a_lt hy.0)
        (pec_from_one vs (byte_step (bit_xor a x)) (byte_step (bit_xor a y)) hx.1 (byte_step_lt (bit_xor a x)) (byte_step_lt (bit_xor a y))
        (join 0 us (x ∷ vs) ∙ e ∙ sym (join 0 us (y ∷ vs))))
