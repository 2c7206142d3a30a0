-- The outcome of a table and a room by each test, and what a refusal and a served report leave.
-- Assumes nothing.
use mathlib.Core.Path.{◌≡◌, refl, sym, ◌∙◌}
use mathlib.Core.List.{List, ◌++◌}
use Prim.Native.Nat.{ℕ, ◌%◌, ◌≤◌, ◌<◌}
use borrow.Author.Tests.{lt-ltb, le-ltb, eq-eqb, ne_eqb}
use lib.ListN.{length, drop}
use Rattle.std.specs.Prelude.{Result, Ok, Err}
use Rattle.refusals.specs.declared.Refusal.{Refusal}
use Rattle.refusals.specs.declared.Refusal.TheVariants.{SmallRoom, WrongForm}
use Rattle.shelf.specs.Shelf.{report_of}
use Rattle.shelf_row.specs.declared.Figures.{Figures}
use Rattle.shelf_table.specs.Table.{rows_in, figures_bytes, table_wrote, table_room}

module _ (table room : List ℕ) where
  -- the outcome and the room that a call leaves
  abbrev Leaves : Result ℕ Refusal → List ℕ → Type 0
  Leaves w after = (w ≡ table_wrote table room) × (after ≡ table_room table room)

  pub small-room : length room < 16 → Leaves (Err SmallRoom) room
  small-room h = rw (lt-ltb (length room) 16 h) (refl, refl)

  module _ (h : 16 ≤ length room) where
    pub ragged : (length table % 8 ≡ 0 → ⊥) → Leaves (Err WrongForm) room
    ragged k = rw (le-ltb (length room) 16 h, ne_eqb (length table % 8) 0 k) (refl, refl)

    module _ (k : length table % 8 ≡ 0) {r : Result Figures Refusal} (is : r ≡ report_of (rows_in table)) where
      pub bad-rows : {reason : Refusal} → r ≡ Err reason → Leaves (Err reason) room
      bad-rows e = rw (le-ltb (length room) 16 h, eq-eqb (length table % 8) 0 k, sym is ∙ e) (refl, refl)

      pub served : {f : Figures} → r ≡ Ok f → {bytes : List ℕ} → bytes ≡ figures_bytes f → Leaves (Ok 16) (bytes ++ drop 16 room)
      served e b = rw (le-ltb (length room) 16 h, eq-eqb (length table % 8) 0 k, sym is ∙ e, b) (refl, refl)
