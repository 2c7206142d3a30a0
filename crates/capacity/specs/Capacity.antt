-- Document 01, Registers: the rules of capacity that registers, set-up and samples share.
-- Assumes nothing.
use Rattle.std.specs.Prelude.{ℕ, ◌*◌, ◌/◌, min, Bool, true, false, cond, eqb, leb}

-- mAh in mA·ms (RULES 6)
abbrev pub milliamp_ms : ℕ → ℕ
milliamp_ms capacity = capacity * 3600000

-- in 10 mWh (of mAh) or 10 mW (of mA): floor(amount × voltage ÷ 10,000) (RULES 6.15, 6.17)
abbrev pub power_of : ℕ → ℕ → ℕ
power_of amount voltage = amount * voltage / 10000

-- charge in mA·ms as 10 mWh: floor(charge × design voltage ÷ (3,600,000 × 10,000)) (RULES 6.15)
abbrev pub energy_of : ℕ → ℕ → ℕ
energy_of charge voltage = charge * voltage / (3600000 * 10000)

-- capped at 65,535 (RULES 6.13, 6.15)
abbrev pub capped_word : ℕ → ℕ
capped_word x = min 65535 x

-- floor(100 × charge ÷ capacity), the charge in mA·ms (RULES 6.12, 6.13)
abbrev pub percent_of : ℕ → ℕ → ℕ
percent_of charge capacity = 100 * charge / milliamp_ms capacity

-- bit 4 of 16: set at charge 0, cleared at 0D of 20 or more, else kept (RULES 6.23)
abbrev pub fully_discharged_of : Bool → ℕ → ℕ → Bool
fully_discharged_of before charge full = cond (eqb charge 0) true (cond (leb 20 (percent_of charge full)) false before)
