-- The examples of R-4 and R-8 come out so.
-- Assumes nothing.
use mathlib.Core.Path.{refl}
use Rattle.clock.specs.Broadcast.{sampled_of}
use Rattle.clock.specs.Sample.{moved_of}
use Rattle.examples.specs.Learned.{LearnedByHand, PercentsByHand}
use Rattle.gauge.specs.Word.{given_of}
use Rattle.registers.specs.Registers.{remaining_capacity, full_charge_capacity}
use Rattle.start.specs.SetUp.{pack_of}
use Rattle.tank.specs.Tank.{seen_of, tank_after}

pub learned_by_hand : LearnedByHand
unfolding sampled_of moved_of tank_after seen_of given_of remaining_capacity full_charge_capacity pack_of
learned_by_hand = refl

pub percents_by_hand : PercentsByHand
unfolding sampled_of moved_of tank_after seen_of given_of pack_of
percents_by_hand = refl
