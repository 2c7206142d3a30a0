-- Request R-7: each of the charger's commands has its row.
-- Assumes nothing.
use Rattle.std.specs.Prelude.{ℕ, Bool, cond, ◌||◌, eqb}
use Rattle.commands.specs.Commands.{from}
use Rattle.commands.specs.declared.Kind.{Kind}
use Rattle.commands.specs.declared.Kind.TheVariants.{ReadOnly, WriteOnly, Reserved}

-- read only: 11 ChargerSpecInfo, 13 ChargerStatus (RULES 14.1)
abbrev pub is_shown : ℕ → Bool
is_shown command = eqb command 0x11 || eqb command 0x13

-- write only: 12 ChargerMode, 14 ChargingCurrent, 15 ChargingVoltage, 16 AlarmWarning (RULES 14.1)
abbrev pub is_taken : ℕ → Bool
is_taken command = eqb command 0x12 || from 0x14 0x16 command

-- all others are reserved (RULES 14.1)
unfoldable pub charger_kind : ℕ → Kind
charger_kind command = cond (is_shown command) ReadOnly (cond (is_taken command) WriteOnly Reserved)
