-- Document 01, Clock and broadcasts, and request R-5: what goes, what is sent, in order, and the room for it.
-- Assumes nothing.
use Rattle.std.specs.Prelude.{ℕ, Bool, cond, not, ◌&&◌, List, [], ◌∷◌, ◌++◌, leb}
use Rattle.frame.specs.Broadcasts.{message_to, all_sent}
use Rattle.frame.specs.declared.Message.{Message}
use Rattle.pack.specs.declared.Pack.{Pack}
use Rattle.alarms.specs.Alarms.{any_alarm, charger_alarm, charging_current}
use Rattle.status.specs.Status.{alarm_word}

-- alarms go when any of the bits is set, ALARM_MODE is clear and 10,000 ms have passed since the last alarm (RULES 8.2)
unfoldable pub alarm_goes : Pack → Bool
alarm_goes p = any_alarm p && not p.host.AlarmMode && leb 10000 p.timers.alarm

-- charger words go each 30,000 ms while CHARGER_MODE is clear (RULES 8.5)
unfoldable pub charger_goes : Pack → Bool
charger_goes p = not p.host.ChargerMode && leb 30000 p.timers.charger

-- AlarmWarning `10 16`, and `12 16` if bit 15, 14 or 12 is set (RULES 8.3)
unfoldable pub alarms_of : Pack → List Message
alarms_of p = cond (alarm_goes p) (message_to 0x10 0x16 (alarm_word p) ∷ cond (charger_alarm p) (message_to 0x12 0x16 (alarm_word p) ∷ []) []) []

-- the `12 14` and `12 15` words (RULES 8.5)
unfoldable pub charger_words_of : Pack → List Message
charger_words_of p = cond (charger_goes p) (message_to 0x12 0x14 (charging_current p) ∷ message_to 0x12 0x15 p.settings.ChargingVoltage ∷ []) []

-- messages, in order (RULES 8.6)
abbrev pub messages_of : Pack → List Message
messages_of p = alarms_of p ++ charger_words_of p

-- their bytes, each with its PEC, or plain if set-up chose that (RULES 8.7)
abbrev pub broadcast_of : Pack → List ℕ
broadcast_of p = all_sent p.settings.plain (messages_of p)

-- the room that broadcasts need: 20 bytes, 16 in plain (RULES 1.2)
abbrev pub least_room : Bool → ℕ
least_room plain = cond plain 16 20
