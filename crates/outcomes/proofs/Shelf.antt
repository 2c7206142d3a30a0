-- Each contract of the shelf is the one told, and allows one outcome.
-- Assumes nothing.
use mathlib.Core.Path.{refl}
use Rattle.outcomes.specs.Outcome.{Settled}
use Rattle.outcomes.specs.Shelf.{report_terms, write_report_terms}
use Rattle.outcomes.proofs.One.{settled}
use Rattle.shelf.specs.contracts.report as report_owed
use Rattle.shelf_table.specs.contracts.write_report as write_report_owed

pub report_settled : Settled (λ M 𝓤. report_owed.clauses {M = M} {𝓤 = 𝓤}) report_terms
report_settled = settled report_terms (λ M 𝓤 𝓛 memory run. refl)

pub write_report_settled : Settled (λ M 𝓤. write_report_owed.clauses {M = M} {𝓤 = 𝓤}) write_report_terms
write_report_settled = settled write_report_terms (λ M 𝓤 𝓛 memory run. refl)
