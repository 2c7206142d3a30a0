-- Limits in °C, exact in steps of 0.1 K.
-- Assumes nothing.
use Prim.Native.Nat.{◌+◌, ◌*◌}
use native.Mathlib.Omega.{arith}
use Rattle.recent.proofs.Totals.{same_test}
use Rattle.thirteen_status.specs.Status.{hundredths, celsius, AtLeastTenths, AtMostTenths}

pub at_least_tenths : AtLeastTenths
at_least_tenths degrees tenths = same_test (celsius degrees) (hundredths tenths) (2732 + 10 * degrees) tenths (λ h. omega (arith, h)) (λ h. omega (arith, h))

pub at_most_tenths : AtMostTenths
at_most_tenths degrees tenths = same_test (hundredths tenths) (celsius degrees) tenths (2731 + 10 * degrees) (λ h. omega (arith, h)) (λ h. omega (arith, h))
