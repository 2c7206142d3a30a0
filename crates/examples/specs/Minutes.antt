-- Request R-6: minutes at the border of the range, worked by hand: of each read its word and its answer.
-- Assumes nothing.
use Rattle.std.specs.Prelude.{ℕ, false, List, [], ◌∷◌, ◌≡◌, ℤ, pos, negsuc}
use Rattle.std.specs.Int.{w16}
use Rattle.std.proofs.Common.{of_z}
use Rattle.gauge.specs.Word.{word_of, word_answer}
use Rattle.pack.specs.declared.Pack.{Pack}
use Rattle.pack.specs.declared.State.{State}
use Rattle.start.specs.SetUp.{pack_of}
use Rattle.written.specs.Written.{pack_written}

-- 65,535 mAh when full, at 9,999 mV, with so much remaining and such a current
abbrev large : ℕ → ℤ → Pack
large remaining current =
    pack_of
    (record {
      DesignCapacity = 65535;
      full = 65535;
      remaining = remaining;
      DesignVoltage = 10000;
      MaxError = 0;
      CycleCount = 0;
      ManufactureDate = 0;
      SerialNumber = 0;
      ChargingCurrent = 0;
      ChargingVoltage = 0;
      TemperatureLimit = 0;
      DischargeLimit = 0;
      plain = false;
    })
    (record { voltage = 9999; current = current; temperature = 0; counter = 0 })

-- in power mode
abbrev powered : Pack → Pack
powered p = pack_written p 0x03 0x8000

-- with AtRate written
abbrev asked : Pack → ℤ → Pack
asked p rate = pack_written p 0x04 (of_z w16 rate)

-- the word and the answer of a read of a command
abbrev read : Pack → ℕ → List ℕ
read p command = let s : State = record { error = 0; pack = p } in word_of s command ∷ word_answer s command ∷ []

-- at 60 mA as many minutes as mAh; none at 0 mA; in power mode 1 mA × 9,999 mV is under 10 mW
pub record AtTheBorder : Type 0 where
  pub one_less : read (asked (large 65533 (pos 0)) (negsuc 59)) 0x06 ≡ 65533 ∷ 0 ∷ []
  pub last : read (asked (large 65534 (pos 0)) (negsuc 59)) 0x06 ≡ 65534 ∷ 0 ∷ []
  pub beyond : read (asked (large 65535 (pos 0)) (negsuc 59)) 0x06 ≡ 65534 ∷ 10 ∷ []
  pub to_full_last : read (asked (large 1 (pos 0)) (pos 60)) 0x05 ≡ 65534 ∷ 0 ∷ []
  pub to_full_beyond : read (asked (large 0 (pos 0)) (pos 60)) 0x05 ≡ 65534 ∷ 10 ∷ []
  pub not_asked : read (large 65535 (pos 0)) 0x06 ≡ 65535 ∷ 0 ∷ []
  pub other_way : read (asked (large 65535 (pos 0)) (pos 60)) 0x06 ≡ 65535 ∷ 0 ∷ []
  pub run_time_last : read (large 65534 (negsuc 59)) 0x11 ≡ 65534 ∷ 0 ∷ []
  pub run_time_beyond : read (large 65535 (negsuc 59)) 0x11 ≡ 65534 ∷ 10 ∷ []
  pub average_beyond : read (large 65535 (negsuc 59)) 0x12 ≡ 65534 ∷ 10 ∷ []
  pub average_to_full_beyond : read (large 0 (pos 60)) 0x13 ≡ 65534 ∷ 10 ∷ []
  pub rounded_to_0 : read (powered (large 65535 (negsuc 0))) 0x11 ≡ 65534 ∷ 10 ∷ []
  pub rounded_other_way : read (powered (large 65535 (pos 1))) 0x11 ≡ 65535 ∷ 0 ∷ []
  pub to_full_in_power_mode : read (powered (large 0 (pos 0))) 0x05 ≡ 65535 ∷ 10 ∷ []
