-- Each contract of the check byte is the one told, and allows one outcome.
-- Assumes nothing.
use mathlib.Core.Path.{refl}
use Rattle.outcomes.specs.Outcome.{Settled}
use Rattle.outcomes.specs.Pec.{pec_from_terms, pec_terms, exchange_check_terms, bit_comparison_terms}
use Rattle.outcomes.proofs.One.{settled}
use Rattle.pec.specs.contracts.pec_from as pec_from_owed
use Rattle.pec.specs.contracts.pec as pec_owed
use Rattle.pec.specs.contracts.exchange_check as exchange_check_owed
use Rattle.pec.specs.contracts.bit_comparison as bit_comparison_owed

pub pec_from_settled : Settled (λ M 𝓤. pec_from_owed.clauses {M = M} {𝓤 = 𝓤}) pec_from_terms
pec_from_settled = settled pec_from_terms (λ M 𝓤 𝓛 memory run. refl)

pub pec_settled : Settled (λ M 𝓤. pec_owed.clauses {M = M} {𝓤 = 𝓤}) pec_terms
pec_settled = settled pec_terms (λ M 𝓤 𝓛 memory run. refl)

pub exchange_check_settled : Settled (λ M 𝓤. exchange_check_owed.clauses {M = M} {𝓤 = 𝓤}) exchange_check_terms
exchange_check_settled = settled exchange_check_terms (λ M 𝓤 𝓛 memory run. refl)

pub bit_comparison_settled : Settled (λ M 𝓤. bit_comparison_owed.clauses {M = M} {𝓤 = 𝓤}) bit_comparison_terms
bit_comparison_settled = settled bit_comparison_terms (λ M 𝓤 𝓛 memory run. refl)
