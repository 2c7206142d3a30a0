-- The twelve worked examples hold: computed.
-- Assumes nothing.
use mathlib.Core.Path.{refl}
use Rattle.recent.specs.Recent.{average_of, sum_of}
use Rattle.seconds.specs.Seconds.{recent_after}
use Rattle.examples.specs.Examples.{examples, AsExpected}
use Rattle.gauge.specs.Word.{given_of}
use Rattle.key.specs.Key.{key_of, hex_word}
use Rattle.start.specs.SetUp.{pack_of}
use Rattle.pec.specs.Pec.{pec_of, pec_from, byte_step, bit_step}
use Rattle.registers.specs.Registers.{remaining_capacity}
use Rattle.written.specs.Written.{host_written, pack_written}

pub twelve : AsExpected
unfolding examples recent_after average_of sum_of host_written pack_written given_of key_of hex_word pack_of pec_of pec_from byte_step bit_step remaining_capacity
twelve = refl
