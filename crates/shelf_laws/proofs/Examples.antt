-- The worked reports hold: computed.
-- Assumes nothing.
use mathlib.Core.Path.{refl}
use Rattle.shelf.specs.Shelf.{report_of, any_bad, total, lowest_from, at_most_all}
use Rattle.shelf_laws.specs.Examples.{examples, AsExpected, BytesAsExpected}

pub as_expected : AsExpected
unfolding examples report_of any_bad total lowest_from at_most_all
as_expected = refl

pub bytes_as_expected : BytesAsExpected
unfolding report_of any_bad total lowest_from at_most_all
bytes_as_expected = refl
