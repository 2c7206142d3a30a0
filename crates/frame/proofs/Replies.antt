-- A reply's length, and its PEC run over its pieces.
-- Assumes nothing.
use mathlib.Core.Path.{◌≡◌, ◌∙◌}
use mathlib.Core.List.{List, [], ◌∷◌, ◌++◌}
use Prim.Native.Nat.{ℕ, ◌+◌}
use lib.ListN.{length, length-append}
use Rattle.pec.specs.Pec.{pec_from, pec_of}
use Rattle.pec.proofs.Join.{join}
use Rattle.frame.specs.Transactions.{reply_of}

pub reply_length : (request body : List ℕ) → length (reply_of request body) ≡ length body + 1
unfolding reply_of
reply_length request body = simp length-append

pub body_check : (request body : List ℕ) → pec_from (pec_of request) body ≡ pec_of (request ++ body)
unfolding pec_of
body_check request body = join 0 request body

pub block_check : (request : List ℕ) (count : ℕ) (text : List ℕ) → pec_from (pec_from (pec_of request) (count ∷ [])) text ≡ pec_of (request ++ count ∷ text)
block_check request count text = join (pec_of request) (count ∷ []) text ∙ body_check request (count ∷ text)
