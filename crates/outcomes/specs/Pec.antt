-- The check byte: what comes out of each public function, and what must.
-- Assumes nothing.
use Rattle.std.specs.Prelude.{ℕ, Bool, Result, [], ◌∷◌}
use Rattle.outcomes.specs.Outcome.{Terms, terms_of}
use Rattle.pec.specs.Messages.{bit_comparison, exchange_check}
use Rattle.pec.specs.Pec.{pec_from, pec_of}
use Rattle.refusals.specs.declared.Refusal.{Refusal}
use Rattle.pec.specs.contracts.pec_from as pec_from_owed
use Rattle.pec.specs.contracts.pec as pec_owed
use Rattle.pec.specs.contracts.exchange_check as exchange_check_owed
use Rattle.pec.specs.contracts.bit_comparison as bit_comparison_owed

-- `pec_from`
abbrev pub pec_from_terms : Terms pec_from_owed.ended
pec_from_terms = terms_of
    (ℕ ∷ [])
    (λ κs r _. (r, tt))
    (λ κs (start, (s, _)). (pec_from start s.now, tt))

-- `pec`
abbrev pub pec_terms : Terms pec_owed.ended
pec_terms = terms_of
    (ℕ ∷ [])
    (λ κs r _. (r, tt))
    (λ κs (s, _). (pec_of s.now, tt))

-- `exchange_check`
abbrev pub exchange_check_terms : Terms exchange_check_owed.ended
exchange_check_terms = terms_of
    (Result Bool Refusal ∷ [])
    (λ κs r _. (r, tt))
    (λ κs (s, _). (exchange_check s.now, tt))

-- `bit_comparison`
abbrev pub bit_comparison_terms : Terms bit_comparison_owed.ended
bit_comparison_terms = terms_of
    (Result ℕ Refusal ∷ [])
    (λ κs r _. (r, tt))
    (λ κs (a, (b, _)). (bit_comparison a.now b.now, tt))
