-- Request R-7: a charger's evening, worked by hand: after each step its ChargerStatus and its current.
-- Assumes nothing.
use Rattle.std.specs.Prelude.{ℕ, List, [], ◌∷◌, ◌≡◌, ℤ, pos, negsuc}
use Rattle.charger_state.specs.Charger.{set_up_of, current_of, word_of, sampled_of}
use Rattle.charger_written.specs.Written.{charger_written}
use Rattle.charger_state.specs.declared.Charger.{Charger}
use Rattle.pack.specs.declared.Sample.{Sample}

-- what a charger measures at the pack
abbrev measured : ℕ → ℤ → ℕ → Sample
measured voltage current counter = record { voltage = voltage; current = current; temperature = 2931; counter = counter }

-- set up with a pack at rest; asked for 1,500 mA up to 16,800 mV; a second later it flows
abbrev started : Charger
started = set_up_of (measured 13000 (pos 0) 0)

abbrev half : Charger
half = charger_written started 0x14 1500

abbrev whole : Charger
whole = charger_written half 0x15 16800

abbrev flowing : Charger
flowing = sampled_of whole (measured 13300 (pos 1500) 1000)

-- an alarm with TERMINATE_CHARGE, and after it one request and the other
abbrev alarmed : Charger
alarmed = charger_written flowing 0x16 0x40AF

abbrev again : Charger
again = charger_written alarmed 0x14 1500

abbrev back : Charger
back = charger_written again 0x15 16800

-- what a host sees and what flows
abbrev shows : Charger → List ℕ
shows s = word_of s 0x13 ∷ current_of s ∷ []

-- LEVEL_2, BATTERY_PRESENT and AC_PRESENT are 0xC010; the bits beside them as they come
pub record EveningByHand : Type 0 where
  pub version : word_of started 0x11 ≡ 0x0003
  pub set_up : shows started ≡ 0xC010 ∷ 0 ∷ []
  pub current_alone : shows half ≡ 0xC018 ∷ 0 ∷ []
  pub both : shows whole ≡ 0xC01C ∷ 1500 ∷ []
  pub flows : shows flowing ≡ 0xC014 ∷ 1500 ∷ []
  pub drawn_from : shows (sampled_of whole (measured 13300 (negsuc 4) 1000)) ≡ 0xC01C ∷ 1500 ∷ []
  pub inhibited : shows (charger_written flowing 0x12 0x0001) ≡ 0xC015 ∷ 0 ∷ []
  pub no_more : shows (charger_written (charger_written flowing 0x12 0x0001) 0x12 0x0000) ≡ 0xC014 ∷ 1500 ∷ []
  pub alarm : shows alarmed ≡ 0xD014 ∷ 0 ∷ []
  pub one_request : shows again ≡ 0xD014 ∷ 0 ∷ []
  pub both_again : shows back ≡ 0xC014 ∷ 1500 ∷ []
  pub alarm_between : shows (charger_written (charger_written again 0x16 0x1000) 0x15 16800) ≡ 0xD014 ∷ 0 ∷ []
  pub empty_pack : shows (charger_written flowing 0x16 0x0ACF) ≡ 0xC014 ∷ 1500 ∷ []
  pub to_zero : shows (charger_written flowing 0x12 0x0008) ≡ 0xC010 ∷ 0 ∷ []
  pub reset : shows (charger_written alarmed 0x12 0x0005) ≡ 0xC010 ∷ 0 ∷ []
  pub nearly_silent : shows (sampled_of back (measured 13300 (pos 1500) 175999)) ≡ 0xC014 ∷ 1500 ∷ []
  pub silent : shows (sampled_of back (measured 13300 (pos 1500) 176000)) ≡ 0xC014 ∷ 0 ∷ []
  pub heard_again : shows (charger_written (sampled_of back (measured 13300 (pos 1500) 176000)) 0x15 16800) ≡ 0xC014 ∷ 1500 ∷ []
