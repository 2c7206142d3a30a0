-- The figures' numbers stored one after the other are their bytes.
-- Assumes nothing.
use mathlib.Core.Path.{◌≡◌}
use mathlib.Core.List.{List}
use Prim.Native.Nat.{ℕ}
use lib.ListN.{length}
use lib.Seq.{sets}
use Rattle.std.specs.Prelude.{is_some}
use Rattle.numbers.specs.Numbers.{number_bytes, flag_of}
use Rattle.rooms.proofs.Rooms.{whole}
use Rattle.shelf_row.specs.Rows.{shown}
use Rattle.shelf_row.specs.declared.Figures.{Figures}
use Rattle.shelf_table.specs.Table.{figures_bytes}

pub figures_laid : (part : List ℕ) (t : Figures) {a b c d e f g h : List ℕ} → 16 ≡ length part
    → a ≡ sets part 0 (number_bytes 1 t.packs) → b ≡ sets a 1 (number_bytes 4 t.remaining) → c ≡ sets b 5 (number_bytes 4 t.full)
    → d ≡ sets c 9 (number_bytes 1 (flag_of (is_some t.lowest))) → e ≡ sets d 10 (number_bytes 2 (shown t.lowest).remaining)
    → f ≡ sets e 12 (number_bytes 2 (shown t.lowest).full) → g ≡ sets f 14 (number_bytes 1 (shown t.lowest).place)
    → h ≡ sets g 15 (number_bytes 1 t.low) → h ≡ figures_bytes t
figures_laid part t n pa pb pc pd pe pf pg ph = rw (ph, pg, pf, pe, pd, pc, pb, pa) (whole part (figures_bytes t) n)
