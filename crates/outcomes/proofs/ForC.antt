-- Each contract of the entries for C is the one told, and allows one outcome.
-- Assumes nothing.
use mathlib.Core.Path.{refl}
use Rattle.outcomes.specs.Outcome.{Settled}
use Rattle.outcomes.specs.ForC.{snatchblock_pec_terms, snatchblock_exchange_check_terms, snatchblock_bit_comparison_terms, snatchblock_write_key_terms, snatchblock_read_key_terms, snatchblock_unescape_terms, snatchblock_write_sheet_terms, snatchblock_set_body_terms, snatchblock_remove_body_terms, snatchblock_is_sheet_terms, snatchblock_block_terms, snatchblock_open_capture_terms, snatchblock_step_capture_terms, snatchblock_shelf_report_terms, snatchblock_set_up_terms, snatchblock_sound_terms, snatchblock_sample_terms, snatchblock_transact_terms, snatchblock_charger_set_up_terms, snatchblock_charger_sound_terms, snatchblock_charger_sample_terms, snatchblock_charger_transact_terms, snatchblock_charger_current_terms, snatchblock_thirteen_set_up_terms, snatchblock_thirteen_sound_terms, snatchblock_thirteen_sample_terms, snatchblock_thirteen_transact_terms}
use Rattle.outcomes.proofs.One.{settled}
use Rattle.snatchblock.specs.contracts.snatchblock_pec as snatchblock_pec_owed
use Rattle.snatchblock.specs.contracts.snatchblock_exchange_check as snatchblock_exchange_check_owed
use Rattle.snatchblock.specs.contracts.snatchblock_bit_comparison as snatchblock_bit_comparison_owed
use Rattle.snatchblock.specs.contracts.snatchblock_write_key as snatchblock_write_key_owed
use Rattle.snatchblock.specs.contracts.snatchblock_read_key as snatchblock_read_key_owed
use Rattle.snatchblock.specs.contracts.snatchblock_unescape as snatchblock_unescape_owed
use Rattle.snatchblock.specs.contracts.snatchblock_write_sheet as snatchblock_write_sheet_owed
use Rattle.snatchblock.specs.contracts.snatchblock_set_body as snatchblock_set_body_owed
use Rattle.snatchblock.specs.contracts.snatchblock_remove_body as snatchblock_remove_body_owed
use Rattle.snatchblock.specs.contracts.snatchblock_is_sheet as snatchblock_is_sheet_owed
use Rattle.snatchblock.specs.contracts.snatchblock_block as snatchblock_block_owed
use Rattle.snatchblock.specs.contracts.snatchblock_open_capture as snatchblock_open_capture_owed
use Rattle.snatchblock.specs.contracts.snatchblock_step_capture as snatchblock_step_capture_owed
use Rattle.snatchblock.specs.contracts.snatchblock_shelf_report as snatchblock_shelf_report_owed
use Rattle.snatchblock.specs.contracts.snatchblock_set_up as snatchblock_set_up_owed
use Rattle.snatchblock.specs.contracts.snatchblock_sound as snatchblock_sound_owed
use Rattle.snatchblock.specs.contracts.snatchblock_sample as snatchblock_sample_owed
use Rattle.snatchblock.specs.contracts.snatchblock_transact as snatchblock_transact_owed
use Rattle.snatchblock.specs.contracts.snatchblock_charger_set_up as snatchblock_charger_set_up_owed
use Rattle.snatchblock.specs.contracts.snatchblock_charger_sound as snatchblock_charger_sound_owed
use Rattle.snatchblock.specs.contracts.snatchblock_charger_sample as snatchblock_charger_sample_owed
use Rattle.snatchblock.specs.contracts.snatchblock_charger_transact as snatchblock_charger_transact_owed
use Rattle.snatchblock.specs.contracts.snatchblock_charger_current as snatchblock_charger_current_owed
use Rattle.snatchblock.specs.contracts.snatchblock_thirteen_set_up as snatchblock_thirteen_set_up_owed
use Rattle.snatchblock.specs.contracts.snatchblock_thirteen_sound as snatchblock_thirteen_sound_owed
use Rattle.snatchblock.specs.contracts.snatchblock_thirteen_sample as snatchblock_thirteen_sample_owed
use Rattle.snatchblock.specs.contracts.snatchblock_thirteen_transact as snatchblock_thirteen_transact_owed

pub snatchblock_pec_settled : Settled (λ M 𝓤. snatchblock_pec_owed.clauses {M = M} {𝓤 = 𝓤}) snatchblock_pec_terms
snatchblock_pec_settled = settled snatchblock_pec_terms (λ M 𝓤 𝓛 memory run. refl)

pub snatchblock_exchange_check_settled : Settled (λ M 𝓤. snatchblock_exchange_check_owed.clauses {M = M} {𝓤 = 𝓤}) snatchblock_exchange_check_terms
snatchblock_exchange_check_settled = settled snatchblock_exchange_check_terms (λ M 𝓤 𝓛 memory run. refl)

pub snatchblock_bit_comparison_settled : Settled (λ M 𝓤. snatchblock_bit_comparison_owed.clauses {M = M} {𝓤 = 𝓤}) snatchblock_bit_comparison_terms
snatchblock_bit_comparison_settled = settled snatchblock_bit_comparison_terms (λ M 𝓤 𝓛 memory run. refl)

pub snatchblock_write_key_settled : Settled (λ M 𝓤. snatchblock_write_key_owed.clauses {M = M} {𝓤 = 𝓤}) snatchblock_write_key_terms
snatchblock_write_key_settled = settled snatchblock_write_key_terms (λ M 𝓤 𝓛 memory run. refl)

pub snatchblock_read_key_settled : Settled (λ M 𝓤. snatchblock_read_key_owed.clauses {M = M} {𝓤 = 𝓤}) snatchblock_read_key_terms
snatchblock_read_key_settled = settled snatchblock_read_key_terms (λ M 𝓤 𝓛 memory run. refl)

pub snatchblock_unescape_settled : Settled (λ M 𝓤. snatchblock_unescape_owed.clauses {M = M} {𝓤 = 𝓤}) snatchblock_unescape_terms
snatchblock_unescape_settled = settled snatchblock_unescape_terms (λ M 𝓤 𝓛 memory run. refl)

pub snatchblock_write_sheet_settled : Settled (λ M 𝓤. snatchblock_write_sheet_owed.clauses {M = M} {𝓤 = 𝓤}) snatchblock_write_sheet_terms
snatchblock_write_sheet_settled = settled snatchblock_write_sheet_terms (λ M 𝓤 𝓛 memory run. refl)

pub snatchblock_set_body_settled : Settled (λ M 𝓤. snatchblock_set_body_owed.clauses {M = M} {𝓤 = 𝓤}) snatchblock_set_body_terms
snatchblock_set_body_settled = settled snatchblock_set_body_terms (λ M 𝓤 𝓛 memory run. refl)

pub snatchblock_remove_body_settled : Settled (λ M 𝓤. snatchblock_remove_body_owed.clauses {M = M} {𝓤 = 𝓤}) snatchblock_remove_body_terms
snatchblock_remove_body_settled = settled snatchblock_remove_body_terms (λ M 𝓤 𝓛 memory run. refl)

pub snatchblock_is_sheet_settled : Settled (λ M 𝓤. snatchblock_is_sheet_owed.clauses {M = M} {𝓤 = 𝓤}) snatchblock_is_sheet_terms
snatchblock_is_sheet_settled = settled snatchblock_is_sheet_terms (λ M 𝓤 𝓛 memory run. refl)

pub snatchblock_block_settled : Settled (λ M 𝓤. snatchblock_block_owed.clauses {M = M} {𝓤 = 𝓤}) snatchblock_block_terms
snatchblock_block_settled = settled snatchblock_block_terms (λ M 𝓤 𝓛 memory run. refl)

pub snatchblock_open_capture_settled : Settled (λ M 𝓤. snatchblock_open_capture_owed.clauses {M = M} {𝓤 = 𝓤}) snatchblock_open_capture_terms
snatchblock_open_capture_settled = settled snatchblock_open_capture_terms (λ M 𝓤 𝓛 memory run. refl)

pub snatchblock_step_capture_settled : Settled (λ M 𝓤. snatchblock_step_capture_owed.clauses {M = M} {𝓤 = 𝓤}) snatchblock_step_capture_terms
snatchblock_step_capture_settled = settled snatchblock_step_capture_terms (λ M 𝓤 𝓛 memory run. refl)

pub snatchblock_shelf_report_settled : Settled (λ M 𝓤. snatchblock_shelf_report_owed.clauses {M = M} {𝓤 = 𝓤}) snatchblock_shelf_report_terms
snatchblock_shelf_report_settled = settled snatchblock_shelf_report_terms (λ M 𝓤 𝓛 memory run. refl)

pub snatchblock_set_up_settled : Settled (λ M 𝓤. snatchblock_set_up_owed.clauses {M = M} {𝓤 = 𝓤}) snatchblock_set_up_terms
snatchblock_set_up_settled = settled snatchblock_set_up_terms (λ M 𝓤 𝓛 memory run. refl)

pub snatchblock_sound_settled : Settled (λ M 𝓤. snatchblock_sound_owed.clauses {M = M} {𝓤 = 𝓤}) snatchblock_sound_terms
snatchblock_sound_settled = settled snatchblock_sound_terms (λ M 𝓤 𝓛 memory run. refl)

pub snatchblock_sample_settled : Settled (λ M 𝓤. snatchblock_sample_owed.clauses {M = M} {𝓤 = 𝓤}) snatchblock_sample_terms
snatchblock_sample_settled = settled snatchblock_sample_terms (λ M 𝓤 𝓛 memory run. refl)

pub snatchblock_transact_settled : Settled (λ M 𝓤. snatchblock_transact_owed.clauses {M = M} {𝓤 = 𝓤}) snatchblock_transact_terms
snatchblock_transact_settled = settled snatchblock_transact_terms (λ M 𝓤 𝓛 memory run. refl)

pub snatchblock_charger_set_up_settled : Settled (λ M 𝓤. snatchblock_charger_set_up_owed.clauses {M = M} {𝓤 = 𝓤}) snatchblock_charger_set_up_terms
snatchblock_charger_set_up_settled = settled snatchblock_charger_set_up_terms (λ M 𝓤 𝓛 memory run. refl)

pub snatchblock_charger_sound_settled : Settled (λ M 𝓤. snatchblock_charger_sound_owed.clauses {M = M} {𝓤 = 𝓤}) snatchblock_charger_sound_terms
snatchblock_charger_sound_settled = settled snatchblock_charger_sound_terms (λ M 𝓤 𝓛 memory run. refl)

pub snatchblock_charger_sample_settled : Settled (λ M 𝓤. snatchblock_charger_sample_owed.clauses {M = M} {𝓤 = 𝓤}) snatchblock_charger_sample_terms
snatchblock_charger_sample_settled = settled snatchblock_charger_sample_terms (λ M 𝓤 𝓛 memory run. refl)

pub snatchblock_charger_transact_settled : Settled (λ M 𝓤. snatchblock_charger_transact_owed.clauses {M = M} {𝓤 = 𝓤}) snatchblock_charger_transact_terms
snatchblock_charger_transact_settled = settled snatchblock_charger_transact_terms (λ M 𝓤 𝓛 memory run. refl)

pub snatchblock_charger_current_settled : Settled (λ M 𝓤. snatchblock_charger_current_owed.clauses {M = M} {𝓤 = 𝓤}) snatchblock_charger_current_terms
snatchblock_charger_current_settled = settled snatchblock_charger_current_terms (λ M 𝓤 𝓛 memory run. refl)

pub snatchblock_thirteen_set_up_settled : Settled (λ M 𝓤. snatchblock_thirteen_set_up_owed.clauses {M = M} {𝓤 = 𝓤}) snatchblock_thirteen_set_up_terms
snatchblock_thirteen_set_up_settled = settled snatchblock_thirteen_set_up_terms (λ M 𝓤 𝓛 memory run. refl)

pub snatchblock_thirteen_sound_settled : Settled (λ M 𝓤. snatchblock_thirteen_sound_owed.clauses {M = M} {𝓤 = 𝓤}) snatchblock_thirteen_sound_terms
snatchblock_thirteen_sound_settled = settled snatchblock_thirteen_sound_terms (λ M 𝓤 𝓛 memory run. refl)

pub snatchblock_thirteen_sample_settled : Settled (λ M 𝓤. snatchblock_thirteen_sample_owed.clauses {M = M} {𝓤 = 𝓤}) snatchblock_thirteen_sample_terms
snatchblock_thirteen_sample_settled = settled snatchblock_thirteen_sample_terms (λ M 𝓤 𝓛 memory run. refl)

pub snatchblock_thirteen_transact_settled : Settled (λ M 𝓤. snatchblock_thirteen_transact_owed.clauses {M = M} {𝓤 = 𝓤}) snatchblock_thirteen_transact_terms
snatchblock_thirteen_transact_settled = settled snatchblock_thirteen_transact_terms (λ M 𝓤 𝓛 memory run. refl)
