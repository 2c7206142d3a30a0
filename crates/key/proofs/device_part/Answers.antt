use mathlib.Core.Path.{ap}
use Prim.Native.Nat.{ℕ}
use native.Mathlib.Omega.{arith}
use Rattle.rooms.specs.Rooms.{further}
use Rattle.key.proofs.Keys.{names_found}
use Rattle.key.proofs.device_part.Goals as goal

pub slice_bounds-result-end : goal.slice_bounds-result-end
slice_bounds-result-end c = omega (arith, names_found c.args.key.now c.in-Ok.found c.in-Ok.ensures)

pub returns-in-Ok-clause-result_value : goal.returns-in-Ok-clause-result_value
returns-in-Ok-clause-result_value c = (names_found c.args.key.now c.in-Ok.found c.in-Ok.ensures).device_is

pub returns-in-Ok-clause-ref_ptr_value : goal.returns-in-Ok-clause-ref_ptr_value
returns-in-Ok-clause-ref_ptr_value c = ap (λ (n : ℕ). further n c.args.key.ref_ptr) (names_found c.args.key.now c.in-Ok.found c.in-Ok.ensures).device_starts
