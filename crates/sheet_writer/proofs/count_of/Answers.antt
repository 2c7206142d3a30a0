-- A body that there is makes an entry of the choice.
-- Assumes nothing.
use denote.Bor.{Bor}
use Rattle.std.specs.Prelude
use Rattle.std.specs.Int.{from_bool}
use Rattle.std.proofs.Common.{◌≡◌, is_some, Some, None, length, ℕ, List, refl, arith}
use Rattle.sheet_writer.specs.Writing.{given, entry_if}
use Rattle.sheet_writer.proofs.Laid.{choice-count}
use Rattle.sheet_writer.proofs.count_of.Goals as goal

one_counted : (tag : ℕ) (b : Prelude.Option (Bor (List ℕ))) → from_bool (is_some b) ≡ length (entry_if tag (given b))
one_counted tag (Some body) = refl
one_counted tag None = refl

pub returns : goal.returns
returns c =
    let a = c.args in
    let more = choice-count (given a.body20) (given a.body21) (given a.body22) (given a.body23) in
    grind (arith, more, one_counted 0x20 a.body20, one_counted 0x21 a.body21, one_counted 0x22 a.body22, one_counted 0x23 a.body23)
