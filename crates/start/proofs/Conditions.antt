-- What the set-up conditions say where set-up is served.
-- Assumes nothing.
use mathlib.Core.Bool.{false}
use mathlib.Core.Path.{◌≡◌}
use mathlib.Mathlib.Data.Bool.Basic.{or-eq-false-eq-eq-false-and-eq-false}
use borrow.Author.Tests.{ltb-false}
use Rattle.pack.proofs.Soundness.{not_zero}
use Rattle.start.specs.Facts.{Served}
use Rattle.start.specs.SetUp.{set_up_refused}
use Rattle.start.specs.declared.Setup.{Setup}

-- set-up that isn't refused meets all four
pub served : (u : Setup) → set_up_refused u ≡ false → Served u
served u h =
    let h3 = (or-eq-false-eq-eq-false-and-eq-false _ _).0 h in
    let h2 = (or-eq-false-eq-eq-false-and-eq-false _ _).0 h3.0 in
    let h1 = (or-eq-false-eq-eq-false-and-eq-false _ _).0 h2.0 in
    record {
      design = not_zero _ h1.0;
      full = not_zero _ h1.1;
      voltage = not_zero _ h2.1;
      remaining = ltb-false _ _ h3.1;
    }
