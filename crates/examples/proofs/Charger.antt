-- A charger's evening holds: computed.
-- Assumes nothing.
use mathlib.Core.Path.{refl}
use Rattle.charger_state.specs.Charger.{current_of, status_of, sampled_of}
use Rattle.charger_written.specs.Written.{mode_written, charger_written}
use Rattle.examples.specs.Charger.{EveningByHand}

pub evening_by_hand : EveningByHand
unfolding current_of status_of sampled_of mode_written charger_written
evening_by_hand =
    record {
      version = refl;
      set_up = refl;
      current_alone = refl;
      both = refl;
      flows = refl;
      drawn_from = refl;
      inhibited = refl;
      no_more = refl;
      alarm = refl;
      one_request = refl;
      both_again = refl;
      alarm_between = refl;
      empty_pack = refl;
      to_zero = refl;
      reset = refl;
      nearly_silent = refl;
      silent = refl;
      heard_again = refl;
    }
