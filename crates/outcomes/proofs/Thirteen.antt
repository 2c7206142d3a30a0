-- Each contract of the thirteen-cell pack and of its area is the one told, and allows one outcome.
-- Assumes nothing.
use mathlib.Core.Path.{refl}
use Rattle.outcomes.specs.Outcome.{Settled}
use Rattle.outcomes.specs.Thirteen.{thirteen_sound_terms, thirteen_zero_terms, thirteen_set_up_terms, thirteen_sample_terms, thirteen_transact_terms, thirteen_store_terms, thirteen_is_area_terms, thirteen_load_terms}
use Rattle.outcomes.proofs.One.{settled}
use Rattle.thirteen_pack.specs.contracts.sound as thirteen_sound_owed
use Rattle.thirteen_pack.specs.contracts.zero as thirteen_zero_owed
use Rattle.thirteen_pack.specs.contracts.set_up as thirteen_set_up_owed
use Rattle.thirteen_pack.specs.contracts.sample as thirteen_sample_owed
use Rattle.thirteen.specs.contracts.transact as thirteen_transact_owed
use Rattle.thirteen_area.specs.contracts.store as thirteen_store_owed
use Rattle.thirteen_area.specs.contracts.is_area as thirteen_is_area_owed
use Rattle.thirteen_area.specs.contracts.load as thirteen_load_owed

pub thirteen_sound_settled : Settled (λ M 𝓤. thirteen_sound_owed.clauses {M = M} {𝓤 = 𝓤}) thirteen_sound_terms
thirteen_sound_settled = settled thirteen_sound_terms (λ M 𝓤 𝓛 memory run. refl)

pub thirteen_zero_settled : Settled (λ M 𝓤. thirteen_zero_owed.clauses {M = M} {𝓤 = 𝓤}) thirteen_zero_terms
thirteen_zero_settled = settled thirteen_zero_terms (λ M 𝓤 𝓛 memory run. refl)

pub thirteen_set_up_settled : Settled (λ M 𝓤. thirteen_set_up_owed.clauses {M = M} {𝓤 = 𝓤}) thirteen_set_up_terms
thirteen_set_up_settled = settled thirteen_set_up_terms (λ M 𝓤 𝓛 memory run. refl)

pub thirteen_sample_settled : Settled (λ M 𝓤. thirteen_sample_owed.clauses {M = M} {𝓤 = 𝓤}) thirteen_sample_terms
thirteen_sample_settled = settled thirteen_sample_terms (λ M 𝓤 𝓛 memory run. refl)

pub thirteen_transact_settled : Settled (λ M 𝓤. thirteen_transact_owed.clauses {M = M} {𝓤 = 𝓤}) thirteen_transact_terms
thirteen_transact_settled = settled thirteen_transact_terms (λ M 𝓤 𝓛 memory run. refl)

pub thirteen_store_settled : Settled (λ M 𝓤. thirteen_store_owed.clauses {M = M} {𝓤 = 𝓤}) thirteen_store_terms
thirteen_store_settled = settled thirteen_store_terms (λ M 𝓤 𝓛 memory run. refl)

pub thirteen_is_area_settled : Settled (λ M 𝓤. thirteen_is_area_owed.clauses {M = M} {𝓤 = 𝓤}) thirteen_is_area_terms
thirteen_is_area_settled = settled thirteen_is_area_terms (λ M 𝓤 𝓛 memory run. refl)

pub thirteen_load_settled : Settled (λ M 𝓤. thirteen_load_owed.clauses {M = M} {𝓤 = 𝓤}) thirteen_load_terms
thirteen_load_settled = settled thirteen_load_terms (λ M 𝓤 𝓛 memory run. refl)
