-- Each contract of the area is the one told, and allows one outcome.
-- Assumes nothing.
use mathlib.Core.Path.{refl}
use Rattle.outcomes.specs.Outcome.{Settled}
use Rattle.outcomes.specs.Area.{store_terms, is_area_terms, load_terms}
use Rattle.outcomes.proofs.One.{settled}
use Rattle.area.specs.contracts.store as store_owed
use Rattle.area.specs.contracts.is_area as is_area_owed
use Rattle.area.specs.contracts.load as load_owed

pub store_settled : Settled (λ M 𝓤. store_owed.clauses {M = M} {𝓤 = 𝓤}) store_terms
store_settled = settled store_terms (λ M 𝓤 𝓛 memory run. refl)

pub is_area_settled : Settled (λ M 𝓤. is_area_owed.clauses {M = M} {𝓤 = 𝓤}) is_area_terms
is_area_settled = settled is_area_terms (λ M 𝓤 𝓛 memory run. refl)

pub load_settled : Settled (λ M 𝓤. load_owed.clauses {M = M} {𝓤 = 𝓤}) load_terms
load_settled = settled load_terms (λ M 𝓤 𝓛 memory run. refl)
