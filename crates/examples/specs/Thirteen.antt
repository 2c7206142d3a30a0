-- Request R-10: a thirteen-cell pack, worked by hand: the player's pack, and each limit exactly and one off.
-- Assumes nothing.
use Rattle.std.specs.Prelude.{ℕ, Bool, true, false, List, [], ◌∷◌, ◌≡◌, ℤ, pos, negsuc}
use Rattle.std.specs.Int.{w16}
use Rattle.std.proofs.Common.{of_z}
use Rattle.frame.specs.Transactions.{read_bytes, reply_of}
use Rattle.pack.specs.declared.Latest.{Latest}
use Rattle.thirteen_pack.specs.SetUp.{pack_of}
use Rattle.thirteen_pack.specs.declared.Thirteen.{Thirteen}
use Rattle.thirteen_words.specs.Cells.{cell_bytes}
use Rattle.thirteen_status.specs.Status.{over_temperature, under_temperature, discharge_over_current, charge_over_current, over_voltage, under_voltage, fully_charged}
use Rattle.thirteen_words.specs.Word.{current_word, word_of}

-- 9,700 mAh when full, half of that remaining; 48,191 mV, −1,234 mA, 298.2 K; cells of 3,701 to 3,713 mV
abbrev half_full : Thirteen
half_full =
    pack_of
    (record {
      DesignCapacity = 10000;
      full = 9700;
      remaining = 4850;
      DesignVoltage = 46800;
      MaxError = 0;
      CycleCount = 0;
      ManufactureDate = 0;
      SerialNumber = 0;
      ChargingCurrent = 0;
      ChargingVoltage = 0;
      TemperatureLimit = 0;
      DischargeLimit = 0;
      plain = false;
    })
    97 (record { voltage = 48191; current = negsuc 1233; temperature = 2982; counter = 0 })
    (3701 ∷ 3702 ∷ 3703 ∷ 3704 ∷ 3705 ∷ 3706 ∷ 3707 ∷ 3708 ∷ 3709 ∷ 3710 ∷ 3711 ∷ 3712 ∷ 3713 ∷ [])

-- 4,819.1 tens of mV; −123.4 tens of mA, as a word 65,536 less 123; 60 × 4,850 ÷ 1,234 is 235.8; bits 7 and 6; 3,701 is 0E75 in hex
pub record VisitByHand : Type 0 where
  pub temperature : word_of half_full 0x08 ≡ 2982
  pub voltage : word_of half_full 0x09 ≡ 4819
  pub current : word_of half_full 0x0A ≡ 65413
  pub percent : word_of half_full 0x0D ≡ 50
  pub to_empty : word_of half_full 0x11 ≡ 235
  pub to_full : word_of half_full 0x13 ≡ 65535
  pub status : word_of half_full 0x16 ≡ 0x00C0
  pub first_cell : word_of half_full 0x31 ≡ 3701
  pub last_cell : word_of half_full 0x3D ≡ 3713
  pub health : word_of half_full 0x4F ≡ 97
  pub all_cells : reply_of (read_bytes 0x16 0xF1) (cell_bytes half_full.cells) ≡
      0x75 ∷ 0x0E ∷ 0x76 ∷ 0x0E ∷ 0x77 ∷ 0x0E ∷ 0x78 ∷ 0x0E ∷ 0x79 ∷ 0x0E ∷ 0x7A ∷ 0x0E ∷ 0x7B ∷ 0x0E ∷ 0x7C ∷ 0x0E ∷ 0x7D ∷ 0x0E ∷ 0x7E ∷ 0x0E ∷ 0x7F ∷ 0x0E
      ∷ 0x80 ∷ 0x0E ∷ 0x81 ∷ 0x0E ∷ 0x3C ∷ []

-- what was sampled last
abbrev seen : ℕ → ℤ → ℕ → Latest
seen voltage current temperature = record { voltage = voltage; current = of_z w16 current; temperature = temperature; counter = 0 }

-- each bit's condition at its limit and one off: 49.95 °C is 3,231 in 0.1 K and 50.05 °C 3,232; −9 mA rounds to none
abbrev pub at_the_limits : List Bool
at_the_limits =
    over_temperature (seen 48000 (pos 1) 3231) ∷ over_temperature (seen 48000 (pos 1) 3232)
    ∷ over_temperature (seen 48000 (negsuc 0) 3331) ∷ over_temperature (seen 48000 (negsuc 0) 3332) ∷ over_temperature (seen 48000 (pos 0) 4000)
    ∷ under_temperature (seen 48000 (pos 0) 2731) ∷ under_temperature (seen 48000 (pos 0) 2732)
    ∷ discharge_over_current (seen 48000 (negsuc 14998) 2982) ∷ discharge_over_current (seen 48000 (negsuc 14999) 2982)
    ∷ charge_over_current (seen 48000 (pos 1999) 2982) ∷ charge_over_current (seen 48000 (pos 2000) 2982)
    ∷ over_voltage (seen 54799 (pos 0) 2982) ∷ over_voltage (seen 54800 (pos 0) 2982)
    ∷ under_voltage (seen 39000 (pos 0) 2982) ∷ under_voltage (seen 39001 (pos 0) 2982)
    ∷ fully_charged (seen 51001 (pos 0) 2982) ∷ fully_charged (seen 51001 (pos 1) 2982) ∷ fully_charged (seen 51001 (pos 99) 2982)
    ∷ fully_charged (seen 51001 (pos 100) 2982) ∷ fully_charged (seen 51000 (pos 99) 2982) ∷ []

abbrev pub LimitsByHand : Type 0
LimitsByHand =
    at_the_limits ≡
    false ∷ true ∷ false ∷ true ∷ false ∷ true ∷ false ∷ false ∷ true ∷ false ∷ true ∷ false ∷ true ∷ true ∷ false ∷ false ∷ true ∷ true ∷ false ∷ false ∷ []

-- −9 mA is no ten, −10 mA one, −32,768 mA 3,276
abbrev pub TensByHand : Type 0
TensByHand = (current_word 65527 ≡ 0) × (current_word 65526 ≡ 65535) × (current_word 32768 ≡ 62260) × (current_word 32767 ≡ 3276)
