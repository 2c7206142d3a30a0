-- One turn of the loop over a text, two characters at a time, and its end.
-- Assumes nothing.
use mathlib.Core.Path.{◌≡◌, sym, ap, ◌∙◌}
use mathlib.Core.List.{List, [], ◌∷◌, ◌++◌}
use Prim.Native.Nat.{ℕ, ◌<◌}
use native.Mathlib.Omega.{arith}
use lib.ListN.{length, get_or}
use Rattle.pec.specs.Pec.{pec_from}
use Rattle.pec_demo.specs.Hex.{byte_of, bytes_of}

pub text_next : (pair rest s : List ℕ) (acc b r p : ℕ) → s ≡ pair ++ rest → length pair ≡ 2 → b ≡ byte_of (get_or pair 0 0) (get_or pair 1 0) → r ≡ pec_from acc (b ∷ [])
    → pec_from acc (bytes_of s) ≡ p
    → pec_from r (bytes_of rest) ≡ p
unfolding pec_from bytes_of
text_next [] rest s acc b r p e l h f q = absurd (omega (arith, l))
text_next (x ∷ []) rest s acc b r p e l h f q = absurd (omega (arith, l))
text_next (x ∷ y ∷ []) rest s acc b r p e l h f q =
    ap (λ (n : ℕ). pec_from n (bytes_of rest)) (f ∙ ap (λ (n : ℕ). pec_from acc (n ∷ [])) h) ∙ ap (λ (t : List ℕ). pec_from acc (bytes_of t)) (sym e) ∙ q
text_next (x ∷ y ∷ z ∷ zs) rest s acc b r p e l h f q = absurd (omega (arith, l))

pub text_end : (s : List ℕ) (acc p : ℕ) → length s < 2 → pec_from acc (bytes_of s) ≡ p → acc ≡ p
unfolding pec_from bytes_of
text_end [] acc p h q = q
text_end (x ∷ []) acc p h q = q
text_end (x ∷ y ∷ s) acc p h q = absurd (omega arith)
