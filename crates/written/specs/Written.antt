-- Document 01, Registers 00 to 04, and the hold: what a served write leaves of the pack.
-- Assumes nothing.
use Rattle.std.specs.Prelude.{ℕ, ◌/◌, ◌%◌, ◌^◌, Bool, cond, eqb}
use Rattle.pack.specs.declared.Host.{Host}
use Rattle.pack.specs.declared.Pack.{Pack}
use Rattle.pack.specs.declared.Timers.{Timers}

-- bit k of a word is set
abbrev pub bit_set : ℕ → ℕ → Bool
bit_set k word = eqb (word / 2 ^ k % 2) 1

-- 00, 01, 02 and 04 keep the written word; of 03 only bits 13 ALARM_MODE, 14 CHARGER_MODE, 15 CAPACITY_MODE take effect (RULES 6.1 to 6.4)
unfoldable pub host_written : Host → ℕ → ℕ → Host
host_written h command word =
    record {
      ManufacturerAccess = cond (eqb command 0x00) word h.ManufacturerAccess;
      RemainingCapacityAlarm = cond (eqb command 0x01) word h.RemainingCapacityAlarm;
      RemainingTimeAlarm = cond (eqb command 0x02) word h.RemainingTimeAlarm;
      AtRate = cond (eqb command 0x04) word h.AtRate;
      AlarmMode = cond (eqb command 0x03) (bit_set 13 word) h.AlarmMode;
      ChargerMode = cond (eqb command 0x03) (bit_set 14 word) h.ChargerMode;
      CapacityMode = cond (eqb command 0x03) (bit_set 15 word) h.CapacityMode;
    }

-- a write to 03 with bit 13 set starts a 60,000 ms hold, with bit 13 clear ends it; while bit 14 is set the charger timer stands at 0 (RULES 7.7)
unfoldable pub timers_written : Timers → ℕ → ℕ → Timers
timers_written t command word =
    record {
      hold = cond (eqb command 0x03) (cond (bit_set 13 word) 60000 0) t.hold;
      alarm = t.alarm;
      charger = cond (eqb command 0x03) (cond (bit_set 14 word) 0 t.charger) t.charger;
    }

-- the pack after a served write
unfoldable pub pack_written : Pack → ℕ → ℕ → Pack
pack_written p command word =
    record {
      settings = p.settings;
      host = host_written p.host command word;
      latest = p.latest;
      recent = p.recent;
      tank = p.tank;
      timers = timers_written p.timers command word;
    }
