-- Each contract of pack sheets is the one told, and allows one outcome.
-- Assumes nothing.
use mathlib.Core.Path.{refl}
use Rattle.outcomes.specs.Outcome.{Settled}
use Rattle.outcomes.specs.Sheets.{is_sheet_terms, locate_terms, block_answer_terms, block_terms, write_sheet_terms, set_terms, remove_terms}
use Rattle.outcomes.proofs.One.{settled}
use Rattle.sheet.specs.contracts.is_sheet as is_sheet_owed
use Rattle.sheet.specs.contracts.locate as locate_owed
use Rattle.sheet.specs.contracts.block_answer as block_answer_owed
use Rattle.sheet.specs.contracts.block as block_owed
use Rattle.sheet_writer.specs.contracts.write_sheet as write_sheet_owed
use Rattle.sheet_edit.specs.contracts.set as set_owed
use Rattle.sheet_edit.specs.contracts.remove as remove_owed

pub is_sheet_settled : Settled (λ M 𝓤. is_sheet_owed.clauses {M = M} {𝓤 = 𝓤}) is_sheet_terms
is_sheet_settled = settled is_sheet_terms (λ M 𝓤 𝓛 memory run. refl)

pub locate_settled : Settled (λ M 𝓤. locate_owed.clauses {M = M} {𝓤 = 𝓤}) locate_terms
locate_settled = settled locate_terms (λ M 𝓤 𝓛 memory run. refl)

pub block_answer_settled : Settled (λ M 𝓤. block_answer_owed.clauses {M = M} {𝓤 = 𝓤}) block_answer_terms
block_answer_settled = settled block_answer_terms (λ M 𝓤 𝓛 memory run. refl)

pub block_settled : Settled (λ M 𝓤. block_owed.clauses {M = M} {𝓤 = 𝓤}) block_terms
block_settled = settled block_terms (λ M 𝓤 𝓛 memory run. refl)

pub write_sheet_settled : Settled (λ M 𝓤. write_sheet_owed.clauses {M = M} {𝓤 = 𝓤}) write_sheet_terms
write_sheet_settled = settled write_sheet_terms (λ M 𝓤 𝓛 memory run. refl)

pub set_settled : Settled (λ M 𝓤. set_owed.clauses {M = M} {𝓤 = 𝓤}) set_terms
set_settled = settled set_terms (λ M 𝓤 𝓛 memory run. refl)

pub remove_settled : Settled (λ M 𝓤. remove_owed.clauses {M = M} {𝓤 = 𝓤}) remove_terms
remove_settled = settled remove_terms (λ M 𝓤 𝓛 memory run. refl)
