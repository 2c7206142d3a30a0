-- Each contract of keys is the one told, and allows one outcome.
-- Assumes nothing.
use mathlib.Core.Path.{refl}
use Rattle.outcomes.specs.Outcome.{Settled}
use Rattle.outcomes.specs.Keys.{is_marked_terms, stroke_terms, unescape_terms, find_terms, read_key_terms, maker_part_terms, device_part_terms, write_key_terms}
use Rattle.outcomes.proofs.One.{settled}
use Rattle.names.specs.contracts.is_marked as is_marked_owed
use Rattle.names.specs.contracts.stroke as stroke_owed
use Rattle.names.specs.contracts.unescape as unescape_owed
use Rattle.key.specs.contracts.find as find_owed
use Rattle.key.specs.contracts.read_key as read_key_owed
use Rattle.key.specs.contracts.maker_part as maker_part_owed
use Rattle.key.specs.contracts.device_part as device_part_owed
use Rattle.key_writer.specs.contracts.write_key as write_key_owed

pub is_marked_settled : Settled (λ M 𝓤. is_marked_owed.clauses {M = M} {𝓤 = 𝓤}) is_marked_terms
is_marked_settled = settled is_marked_terms (λ M 𝓤 𝓛 memory run. refl)

pub stroke_settled : Settled (λ M 𝓤. stroke_owed.clauses {M = M} {𝓤 = 𝓤}) stroke_terms
stroke_settled = settled stroke_terms (λ M 𝓤 𝓛 memory run. refl)

pub unescape_settled : Settled (λ M 𝓤. unescape_owed.clauses {M = M} {𝓤 = 𝓤}) unescape_terms
unescape_settled = settled unescape_terms (λ M 𝓤 𝓛 memory run. refl)

pub find_settled : Settled (λ M 𝓤. find_owed.clauses {M = M} {𝓤 = 𝓤}) find_terms
find_settled = settled find_terms (λ M 𝓤 𝓛 memory run. refl)

pub read_key_settled : Settled (λ M 𝓤. read_key_owed.clauses {M = M} {𝓤 = 𝓤}) read_key_terms
read_key_settled = settled read_key_terms (λ M 𝓤 𝓛 memory run. refl)

pub maker_part_settled : Settled (λ M 𝓤. maker_part_owed.clauses {M = M} {𝓤 = 𝓤}) maker_part_terms
maker_part_settled = settled maker_part_terms (λ M 𝓤 𝓛 memory run. refl)

pub device_part_settled : Settled (λ M 𝓤. device_part_owed.clauses {M = M} {𝓤 = 𝓤}) device_part_terms
device_part_settled = settled device_part_terms (λ M 𝓤 𝓛 memory run. refl)

pub write_key_settled : Settled (λ M 𝓤. write_key_owed.clauses {M = M} {𝓤 = 𝓤}) write_key_terms
write_key_settled = settled write_key_terms (λ M 𝓤 𝓛 memory run. refl)
