-- The strikings worked by hand are as expected.
-- Assumes nothing.
use mathlib.Core.Path.{refl}
use Rattle.chatter.specs.Examples.{examples, AsExpected}

pub as_expected : AsExpected
unfolding examples
as_expected = refl
