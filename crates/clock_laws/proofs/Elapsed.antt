-- Elapsed is true time, across the counter's wrap.
-- Assumes nothing.
use native.Mathlib.Omega.{arith}
use Rattle.clock_laws.specs.Promises.{ElapsedTrue}

pub elapsed_true : ElapsedTrue
elapsed_true earlier later l h = omega arith
