-- One turn of the loops over a message, and their ends.
-- Assumes nothing.
use mathlib.Core.Path.{◌≡◌, sym, ap, ap₂, ◌∙◌}
use mathlib.Core.List.{List}
use Prim.Native.Nat.{ℕ, ◌+◌, ◌≤◌, ◌<◌}
use native.Mathlib.Numerals.{add-one}
use lib.Bits.{bit_xor, xor_lt}
use lib.Count.{ones, ones-le}
use lib.ListN.{length, get_or, drop, drop_of_length-le}
use lib.Seq.{drop-cons}
use Rattle.pec.specs.Pec.{byte_step, pec_from}
use Rattle.pec.specs.Messages.{bits_apart}

pub pec_next : (s : List ℕ) (i acc r p : ℕ) → i < length s → r ≡ byte_step (bit_xor acc (get_or s i 0)) → pec_from acc (drop i s) ≡ p
    → pec_from r (drop (i + 1) s) ≡ p
unfolding pec_from
pec_next s i acc r p h e q =
    ap₂ (λ (t n : ℕ). pec_from t (drop n s)) e (add-one i) ∙ sym (ap (pec_from acc) (drop-cons s i 0 h)) ∙ q

pub pec_end : (s : List ℕ) (i acc p : ℕ) → length s ≤ i → pec_from acc (drop i s) ≡ p → acc ≡ p
unfolding pec_from
pec_end s i acc p h q = sym (ap (pec_from acc) (drop_of_length-le s h)) ∙ q

pub apart_next : (a b : List ℕ) (i : ℕ) → i < length a → i < length b
    → bits_apart (drop i a) (drop i b) ≡ ones (bit_xor (get_or a i 0) (get_or b i 0)) + bits_apart (drop (i + 1) a) (drop (i + 1) b)
unfolding bits_apart
apart_next a b i h k =
    ap₂ bits_apart (drop-cons a i 0 h) (drop-cons b i 0 k)
    ∙ ap (λ (n : ℕ). ones (bit_xor (get_or a i 0) (get_or b i 0)) + bits_apart (drop n a) (drop n b)) (sym (add-one i))

pub apart_end : (a b : List ℕ) (i : ℕ) → length a ≤ i → bits_apart (drop i a) (drop i b) ≡ 0
unfolding bits_apart
apart_end a b i h = ap (λ (x : List ℕ). bits_apart x (drop i b)) (drop_of_length-le a h)

pub apart_le : (x y : ℕ) → x < 256 → y < 256 → ones (bit_xor x y) ≤ 8
apart_le x y h k = ones-le 8 (bit_xor x y) (xor_lt 8 x y h k)
