-- `thirteen_status::under_temperature` meets its contract: 2,731 in 0.1 K is the last at most 0 °C.
-- Assumes nothing.
use mathlib.Core.Path.{sym}
use Rattle.thirteen_status.proofs.Celsius.{at_most_tenths}
use Rattle.thirteen_status.proofs.under_temperature.Goals as goal

pub returns : goal.returns
returns c = sym (at_most_tenths 0 c.args.temperature)
