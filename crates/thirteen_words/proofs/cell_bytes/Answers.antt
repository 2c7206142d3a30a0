-- `thirteen_words::cell_bytes` meets its contract: the words' bytes fill the array.
-- Assumes nothing.
use Prim.Native.Nat.{ℕ}
use mathlib.Core.List.{List}
use mathlib.Core.Path.{◌≡◌, ap, sym, ◌∙◌, subst}
use Rattle.std.proofs.lemmas.List.{map-id}
use Rattle.recent.specs.Fits.{Below}
use native.Mathlib.Omega.{arith}
use borrow.Author.Rules.{rules}
use lib.ListN.{length, replicate}
use lib.Seq.{sets}
use Rattle.rooms.proofs.Rooms.{whole}
use Rattle.thirteen_words.proofs.Cells.{cells_length, cells_are}
use Rattle.thirteen_words.specs.Cells.{cell_bytes}
use Rattle.thirteen_words.proofs.cell_bytes.Goals as goal

pub put_numbers-requires : goal.put_numbers-requires
put_numbers-requires c =
    let n : 13 ≡ length c.args.cells = (search rules) in omega (arith, n)

pub returns : goal.returns
returns c =
    let cells = c.args.cells in
    let n : 13 ≡ length cells = (search rules) in
    let put = c.put_numbers.ensures in
    (rw (map-id cells) at put.memory)
    ∙ ap (λ (bytes : List ℕ). sets (replicate 26 0) 0 bytes) (cells_are cells (subst (Below 65536) (map-id cells) put.fit))
    ∙ whole (replicate 26 0) (cell_bytes cells) (omega (arith, cells_length cells, n))
