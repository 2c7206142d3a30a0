-- A read or a refused call, told from two tests.
-- Assumes nothing.
use mathlib.Core.Bool.{Bool, true, false, not, ◌||◌}
use mathlib.Core.Logic.{◌⊎◌, inl, inr}
use mathlib.Core.Path.{◌≡◌, refl}
use borrow.Author.Tests.{not-true}

pub either : (read served : Bool) → read || not served ≡ true → (read ≡ true) ⊎ (served ≡ false)
either true served h = inl refl
either false served h = inr (not-true served h)
