-- Each contract of the charger and of its area is the one told, and allows one outcome.
-- Assumes nothing.
use mathlib.Core.Path.{refl}
use Rattle.outcomes.specs.Outcome.{Settled}
use Rattle.outcomes.specs.Charger.{charger_set_up_terms, charger_sound_terms, charger_current_terms, charger_sample_terms, charger_transact_terms, charger_message_terms, charger_store_terms, charger_is_area_terms, charger_load_terms}
use Rattle.outcomes.proofs.One.{settled}
use Rattle.charger_state.specs.contracts.set_up as charger_set_up_owed
use Rattle.charger_state.specs.contracts.sound as charger_sound_owed
use Rattle.charger_state.specs.contracts.current as charger_current_owed
use Rattle.charger_state.specs.contracts.sample as charger_sample_owed
use Rattle.charger.specs.contracts.transact as charger_transact_owed
use Rattle.charger.specs.contracts.message as charger_message_owed
use Rattle.charger_area.specs.contracts.store as charger_store_owed
use Rattle.charger_area.specs.contracts.is_area as charger_is_area_owed
use Rattle.charger_area.specs.contracts.load as charger_load_owed

pub charger_set_up_settled : Settled (λ M 𝓤. charger_set_up_owed.clauses {M = M} {𝓤 = 𝓤}) charger_set_up_terms
charger_set_up_settled = settled charger_set_up_terms (λ M 𝓤 𝓛 memory run. refl)

pub charger_sound_settled : Settled (λ M 𝓤. charger_sound_owed.clauses {M = M} {𝓤 = 𝓤}) charger_sound_terms
charger_sound_settled = settled charger_sound_terms (λ M 𝓤 𝓛 memory run. refl)

pub charger_current_settled : Settled (λ M 𝓤. charger_current_owed.clauses {M = M} {𝓤 = 𝓤}) charger_current_terms
charger_current_settled = settled charger_current_terms (λ M 𝓤 𝓛 memory run. refl)

pub charger_sample_settled : Settled (λ M 𝓤. charger_sample_owed.clauses {M = M} {𝓤 = 𝓤}) charger_sample_terms
charger_sample_settled = settled charger_sample_terms (λ M 𝓤 𝓛 memory run. refl)

pub charger_transact_settled : Settled (λ M 𝓤. charger_transact_owed.clauses {M = M} {𝓤 = 𝓤}) charger_transact_terms
charger_transact_settled = settled charger_transact_terms (λ M 𝓤 𝓛 memory run. refl)

pub charger_message_settled : Settled (λ M 𝓤. charger_message_owed.clauses {M = M} {𝓤 = 𝓤}) charger_message_terms
charger_message_settled = settled charger_message_terms (λ M 𝓤 𝓛 memory run. refl)

pub charger_store_settled : Settled (λ M 𝓤. charger_store_owed.clauses {M = M} {𝓤 = 𝓤}) charger_store_terms
charger_store_settled = settled charger_store_terms (λ M 𝓤 𝓛 memory run. refl)

pub charger_is_area_settled : Settled (λ M 𝓤. charger_is_area_owed.clauses {M = M} {𝓤 = 𝓤}) charger_is_area_terms
charger_is_area_settled = settled charger_is_area_terms (λ M 𝓤 𝓛 memory run. refl)

pub charger_load_settled : Settled (λ M 𝓤. charger_load_owed.clauses {M = M} {𝓤 = 𝓤}) charger_load_terms
charger_load_settled = settled charger_load_terms (λ M 𝓤 𝓛 memory run. refl)
