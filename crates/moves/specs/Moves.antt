-- Bytes cut out of the first `end` bytes of a room, and bytes put in. Definitions: assumes nothing.
use Rattle.std.specs.Prelude.{List, ◌++◌, ℕ, ◌+◌, replicate}
use Rattle.std.proofs.lemmas.List.Edits.{sets}
use Rattle.std.proofs.Math.Seq.{slice}

-- `by` bytes at `at` go: what follows them, up to `end`, closes up, and zeros follow
abbrev pub cut_out : List ℕ → ℕ → ℕ → ℕ → List ℕ
cut_out s end at by = sets s at (slice (at + by) end s ++ replicate by 0)

-- bytes come in at `at`: what stood there, up to `end`, follows them
abbrev pub inserted : List ℕ → ℕ → ℕ → List ℕ → List ℕ
inserted s end at bytes = sets s at (bytes ++ slice at end s)
