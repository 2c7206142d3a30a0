-- What a block read is answered, as a number.
-- Assumes nothing.
use Prim.Native.Nat.{ℕ}
use mathlib.Core.Bool.{Bool, true, false, cond}
use mathlib.Core.List.{List}
use mathlib.Core.Path.{◌≡◌, refl}
use Rattle.refusals.specs.Numbers.{answer_of}
use Rattle.refusals.specs.declared.Refusal.{Refusal}
use Rattle.refusals.specs.declared.Refusal.TheVariants.{BadSheet}
use Rattle.sheet.specs.Block.{good_sheets, block_answer}
use Rattle.std.specs.Prelude.{Result, Ok, Err}

by_sheets : (good : Bool) → answer_of (cond {A = Result (Unit {0}) Refusal} good (Ok tt) (Err BadSheet)) ≡ cond good 0 9
by_sheets true = refl
by_sheets false = refl

-- 0 where both are sheets, else 9
pub block_number : (service factory : List ℕ) → answer_of (block_answer service factory) ≡ cond (good_sheets service factory) 0 9
unfolding block_answer
block_number service factory = by_sheets (good_sheets service factory)
