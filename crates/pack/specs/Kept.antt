-- Document 01, Registers 08, 09 and 0A: what a sample is kept as, and that it fits where it is kept.
-- Assumes nothing.
use Rattle.std.specs.Int.{w16}
use Rattle.std.proofs.Common.{of_z}
use Rattle.pack.specs.Fits.{LatestFit, SampleFits}
use Rattle.pack.specs.declared.Latest.{Latest}
use Rattle.pack.specs.declared.Sample.{Sample}

-- 08, 09, 0A: the latest sample, its signed current as a word (RULES 6.9, 7.1)
abbrev pub latest_of : Sample → Latest
latest_of s = record { voltage = s.voltage; current = of_z w16 s.current; temperature = s.temperature; counter = s.counter }

-- what a sample's type lets it bring, the kept fields' types let them hold
abbrev pub KeptFits : Type 0
KeptFits = (x : Sample) → SampleFits x → LatestFit (latest_of x)
