-- `pack::latest_of` meets its contract: the current's word is that of the integer.
-- Assumes nothing.
use mir.Facts.{to_z-of_z}
use mir.Syntax.{w16}
use native.Mathlib.Omega.{arith}
use Rattle.pack.proofs.latest_of.Goals as goal

pub returns : goal.returns
returns c = simp (c.kept.ensures, to_z-of_z {w = w16} {z = c.args.s.current} (record { sfits = omega (arith, c.struct_told-1.given.1.0) }))
