-- The shelf: what comes out of each public function, and what must.
-- Assumes nothing.
use Rattle.std.specs.Prelude.{ℕ, Result, List, [], ◌∷◌}
use Rattle.outcomes.specs.Outcome.{Terms, terms_of}
use Rattle.refusals.specs.declared.Refusal.{Refusal}
use Rattle.shelf.specs.Shelf.{report_of}
use Rattle.shelf_row.specs.declared.Figures.{Figures}
use Rattle.shelf_table.specs.Table.{table_room, table_wrote}
use Rattle.shelf.specs.contracts.report as report_owed
use Rattle.shelf_table.specs.contracts.write_report as write_report_owed

-- `report`
abbrev pub report_terms : Terms report_owed.ended
report_terms = terms_of
    (Result Figures Refusal ∷ [])
    (λ κs r _. (r, tt))
    (λ κs (rows, _). (report_of rows.now, tt))

-- `write_report`
abbrev pub write_report_terms : Terms write_report_owed.ended
write_report_terms = terms_of
    (Result ℕ Refusal ∷ List ℕ ∷ [])
    (λ κs r (_, (room, _)). (r, (room.now, tt)))
    (λ κs (table, (room, _)). (table_wrote table.now room.now, (table_room table.now room.now, tt)))
