-- Each contract of the pack is the one told, and allows one outcome.
-- Assumes nothing.
use mathlib.Core.Path.{refl}
use Rattle.outcomes.specs.Outcome.{Settled}
use Rattle.outcomes.specs.Pack.{sound_terms, zero_terms, latest_of_terms, set_up_terms, elapsed_terms, sample_terms, transact_terms}
use Rattle.outcomes.proofs.One.{settled}
use Rattle.pack.specs.contracts.sound as sound_owed
use Rattle.start.specs.contracts.zero as zero_owed
use Rattle.pack.specs.contracts.latest_of as latest_of_owed
use Rattle.start.specs.contracts.set_up as set_up_owed
use Rattle.clock.specs.contracts.elapsed as elapsed_owed
use Rattle.clock.specs.contracts.sample as sample_owed
use Rattle.bus.specs.contracts.transact as transact_owed

pub sound_settled : Settled (λ M 𝓤. sound_owed.clauses {M = M} {𝓤 = 𝓤}) sound_terms
sound_settled = settled sound_terms (λ M 𝓤 𝓛 memory run. refl)

pub zero_settled : Settled (λ M 𝓤. zero_owed.clauses {M = M} {𝓤 = 𝓤}) zero_terms
zero_settled = settled zero_terms (λ M 𝓤 𝓛 memory run. refl)

pub latest_of_settled : Settled (λ M 𝓤. latest_of_owed.clauses {M = M} {𝓤 = 𝓤}) latest_of_terms
latest_of_settled = settled latest_of_terms (λ M 𝓤 𝓛 memory run. refl)

pub set_up_settled : Settled (λ M 𝓤. set_up_owed.clauses {M = M} {𝓤 = 𝓤}) set_up_terms
set_up_settled = settled set_up_terms (λ M 𝓤 𝓛 memory run. refl)

pub elapsed_settled : Settled (λ M 𝓤. elapsed_owed.clauses {M = M} {𝓤 = 𝓤}) elapsed_terms
elapsed_settled = settled elapsed_terms (λ M 𝓤 𝓛 memory run. refl)

pub sample_settled : Settled (λ M 𝓤. sample_owed.clauses {M = M} {𝓤 = 𝓤}) sample_terms
sample_settled = settled sample_terms (λ M 𝓤 𝓛 memory run. refl)

pub transact_settled : Settled (λ M 𝓤. transact_owed.clauses {M = M} {𝓤 = 𝓤}) transact_terms
transact_settled = settled transact_terms (λ M 𝓤 𝓛 memory run. refl)
