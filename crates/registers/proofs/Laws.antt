-- 0F is never above 10.
-- Assumes nothing.
use Prim.Native.Nat.{ℕ, ◌≤◌}
use mathlib.Core.Bool.{Bool, true, false, cond}
use mathlib.Core.Path.{◌≡◌}
use native.Mathlib.Omega.{arith}
use Rattle.pack.proofs.Soundness.{tank_facts}
use Rattle.pack.specs.Sound.{tank_sound}
use Rattle.pack.specs.declared.Pack.{Pack}
use Rattle.registers.specs.Registers.{remaining_capacity, full_charge_capacity}
use Rattle.capacity.proofs.Bounds.{energy_most, m_ah_most}

each : (b : Bool) (x y u v : ℕ) → x ≤ u → y ≤ v → cond b x y ≤ cond b u v
each true x y u v f g = f
each false x y u v f g = g

-- 0F is never above 10, in either mode, so full minus remaining means what it says
pub remaining_at_most_full : (p : Pack) → tank_sound p.tank ≡ true → remaining_capacity p ≤ full_charge_capacity p
unfolding remaining_capacity full_charge_capacity
remaining_at_most_full p h =
    let le = (tank_facts p.tank h).charge in
    each p.host.CapacityMode _ _ _ _ (omega (arith, energy_most p.tank.charge p.tank.full p.settings.DesignVoltage le))
    (m_ah_most p.tank.charge p.tank.full le)
