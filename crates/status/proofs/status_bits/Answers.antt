-- `status::status_bits` meets its contract: flag by flag.
-- Assumes nothing.
use native.Mathlib.Nat.{zero-add}
use native.Mathlib.Omega.{arith}
use Rattle.status.specs.Status.{status_bits}
use Rattle.status.proofs.status_bits.Goals as goal

pub returns : goal.returns
unfolding status_bits
returns c = record {
  is = simp (
    zero-add,
    c.flag-discharged.ensures.is,
    c.flag-charged.ensures.is,
    c.charge_full.ensures,
    c.flag-discharging.ensures.is,
    c.discharging_now.ensures,
    c.flag-time.ensures.is,
    c.remaining_time_low.ensures,
    c.flag-capacity.ensures.is,
    c.remaining_capacity_low.ensures,
    c.flag-terminate_discharge.ensures.is,
    c.terminate_discharge.ensures,
    c.flag-over_temp.ensures.is,
    c.over_temp.ensures,
    c.flag-terminate_charge.ensures.is,
    c.terminate_charge.ensures,
  );
  small = omega (
    arith,
    c.flag-discharged.ensures.small,
    c.flag-charged.ensures.small,
    c.flag-discharging.ensures.small,
    c.flag-time.ensures.small,
    c.flag-capacity.ensures.small,
    c.flag-terminate_discharge.ensures.small,
    c.flag-over_temp.ensures.small,
    c.flag-terminate_charge.ensures.small,
  );
}
