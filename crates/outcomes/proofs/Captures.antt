-- Each contract of captures is the one told, and allows one outcome.
-- Assumes nothing.
use mathlib.Core.Path.{refl}
use Rattle.outcomes.specs.Outcome.{Settled}
use Rattle.outcomes.specs.Captures.{is_capture_terms, open_terms, step_at_terms, body_at_terms, start_terms, next_terms, body_terms, after_terms, write_capture_terms}
use Rattle.outcomes.proofs.One.{settled}
use Rattle.capture.specs.contracts.is_capture as is_capture_owed
use Rattle.capture.specs.contracts.«open» as open_owed
use Rattle.capture.specs.contracts.step_at as step_at_owed
use Rattle.capture.specs.contracts.body_at as body_at_owed
use Rattle.reader.specs.contracts.start as start_owed
use Rattle.reader.specs.contracts.next as next_owed
use Rattle.reader.specs.contracts.body as body_owed
use Rattle.reader.specs.contracts.after as after_owed
use Rattle.capture_writer.specs.contracts.write_capture as write_capture_owed

pub is_capture_settled : Settled (λ M 𝓤. is_capture_owed.clauses {M = M} {𝓤 = 𝓤}) is_capture_terms
is_capture_settled = settled is_capture_terms (λ M 𝓤 𝓛 memory run. refl)

pub open_settled : Settled (λ M 𝓤. open_owed.clauses {M = M} {𝓤 = 𝓤}) open_terms
open_settled = settled open_terms (λ M 𝓤 𝓛 memory run. refl)

pub step_at_settled : Settled (λ M 𝓤. step_at_owed.clauses {M = M} {𝓤 = 𝓤}) step_at_terms
step_at_settled = settled step_at_terms (λ M 𝓤 𝓛 memory run. refl)

pub body_at_settled : Settled (λ M 𝓤. body_at_owed.clauses {M = M} {𝓤 = 𝓤}) body_at_terms
body_at_settled = settled body_at_terms (λ M 𝓤 𝓛 memory run. refl)

pub start_settled : Settled (λ M 𝓤. start_owed.clauses {M = M} {𝓤 = 𝓤}) start_terms
start_settled = settled start_terms (λ M 𝓤 𝓛 memory run. refl)

pub next_settled : Settled (λ M 𝓤. next_owed.clauses {M = M} {𝓤 = 𝓤}) next_terms
next_settled = settled next_terms (λ M 𝓤 𝓛 memory run. refl)

pub body_settled : Settled (λ M 𝓤. body_owed.clauses {M = M} {𝓤 = 𝓤}) body_terms
body_settled = settled body_terms (λ M 𝓤 𝓛 memory run. refl)

pub after_settled : Settled (λ M 𝓤. after_owed.clauses {M = M} {𝓤 = 𝓤}) after_terms
after_settled = settled after_terms (λ M 𝓤 𝓛 memory run. refl)

pub write_capture_settled : Settled (λ M 𝓤. write_capture_owed.clauses {M = M} {𝓤 = 𝓤}) write_capture_terms
write_capture_settled = settled write_capture_terms (λ M 𝓤 𝓛 memory run. refl)
