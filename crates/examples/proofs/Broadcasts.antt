-- The example of R-5 comes out so.
-- Assumes nothing.
use mathlib.Core.Path.{refl}
use Rattle.broadcasts.specs.Broadcasts.{alarm_goes, charger_goes, alarms_of, charger_words_of}
use Rattle.clock.specs.Sample.{moved_of}
use Rattle.examples.specs.Broadcasts.{BroadcastByHand}
use Rattle.pec.specs.Pec.{bit_step, byte_step, pec_from, pec_of}
use Rattle.recent.specs.Recent.{average_of, sum_of}
use Rattle.registers.specs.Registers.{remaining_capacity}
use Rattle.seconds.specs.Seconds.{recent_after}
use Rattle.start.specs.SetUp.{pack_of}
use Rattle.status.specs.Status.{status_bits}
use Rattle.tank.specs.Tank.{seen_of, tank_after}

pub broadcast_by_hand : BroadcastByHand
unfolding moved_of tank_after seen_of alarm_goes charger_goes alarms_of charger_words_of status_bits remaining_capacity pack_of bit_step byte_step pec_from pec_of average_of sum_of recent_after
broadcast_by_hand = (refl, refl)
