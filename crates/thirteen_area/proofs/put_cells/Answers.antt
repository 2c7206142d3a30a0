use Rattle.std.proofs.Common.{◌≡◌, length, sym, ◌∙◌, subst, rules}
use Rattle.std.proofs.lemmas.List.{map-id}
use Rattle.recent.specs.Fits.{Below}
use Rattle.rooms.proofs.Rooms.{whole}
use Rattle.thirteen_area.proofs.Whole.{cells_length}
use Rattle.thirteen_area.specs.Area.{cells_bytes}
use Rattle.thirteen_area.proofs.put_cells.Goals as goal

pub returns : goal.returns
unfolding cells_bytes
returns c =
    let cells = c.args.cells in
    let n : 13 ≡ length cells = (search rules) in
    let put = c.put_numbers.ensures in
    record {
      memory = rw (rw (map-id cells) at put.memory, ← n) (whole c.args.part.now (cells_bytes cells) (cells_length cells (sym n) ∙ sym c.requires));
      fit = record { thirteen = sym n; words = subst (Below 65536) (map-id cells) put.fit };
    }
