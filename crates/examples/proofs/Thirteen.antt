-- The thirteen-cell pack's figures hold: computed.
-- Assumes nothing.
use mathlib.Core.Path.{refl}
use Rattle.examples.specs.Thirteen.{VisitByHand, LimitsByHand, TensByHand}
use Rattle.frame.specs.Transactions.{reply_of}
use Rattle.pec.specs.Pec.{bit_step, byte_step, pec_from, pec_of}
use Rattle.recent.specs.Recent.{average_of}
use Rattle.thirteen_pack.specs.SetUp.{pack_of}
use Rattle.thirteen_status.specs.Status.{status_of}
use Rattle.thirteen_words.specs.Word.{given_of}

pub visit_by_hand : VisitByHand
unfolding pack_of given_of status_of average_of reply_of bit_step byte_step pec_from pec_of
visit_by_hand =
    record {
      temperature = refl;
      voltage = refl;
      current = refl;
      percent = refl;
      to_empty = refl;
      to_full = refl;
      status = refl;
      first_cell = refl;
      last_cell = refl;
      health = refl;
      all_cells = refl;
    }

pub limits_by_hand : LimitsByHand
limits_by_hand = refl

pub tens_by_hand : TensByHand
tens_by_hand = (refl, refl, refl, refl)
