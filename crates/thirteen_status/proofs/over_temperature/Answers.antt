-- `thirteen_status::over_temperature` meets its contract: 3,232 and 3,332 in 0.1 K are the first at least 50 °C and 60 °C.
-- Assumes nothing.
use Rattle.thirteen_status.proofs.Celsius.{at_least_tenths}
use Rattle.thirteen_status.proofs.over_temperature.Goals as goal

pub returns : goal.returns
returns c = simp (at_least_tenths 50 c.args.temperature, at_least_tenths 60 c.args.temperature)
