-- The border of the range holds: computed.
-- Assumes nothing.
use mathlib.Core.Path.{refl}
use Rattle.examples.specs.Minutes.{AtTheBorder}
use Rattle.gauge.specs.Word.{given_of}
use Rattle.recent.specs.Recent.{average_of, sum_of}
use Rattle.registers.specs.Registers.{remaining_capacity, full_charge_capacity}
use Rattle.start.specs.SetUp.{pack_of}
use Rattle.written.specs.Written.{host_written, pack_written}

pub at_the_border : AtTheBorder
unfolding given_of average_of sum_of remaining_capacity full_charge_capacity pack_of host_written pack_written
at_the_border =
    record {
      one_less = refl;
      last = refl;
      beyond = refl;
      to_full_last = refl;
      to_full_beyond = refl;
      not_asked = refl;
      other_way = refl;
      run_time_last = refl;
      run_time_beyond = refl;
      average_beyond = refl;
      average_to_full_beyond = refl;
      rounded_to_0 = refl;
      rounded_other_way = refl;
      to_full_in_power_mode = refl;
    }
