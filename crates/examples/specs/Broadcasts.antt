-- Request R-5 worked by hand: a full pack that is charged half a minute after set-up sends all four messages, with PEC and in plain.
-- Assumes nothing.
use Rattle.std.specs.Prelude.{ℕ, Bool, true, false, List, [], ◌∷◌, ◌++◌, ◌≡◌, pos}
use Rattle.broadcasts.specs.Broadcasts.{broadcast_of}
use Rattle.clock.specs.Sample.{moved_of}
use Rattle.start.specs.SetUp.{pack_of}
use Rattle.pack.specs.declared.Pack.{Pack}

-- full at set-up, asked for 16,800 mV, with the choice given
abbrev full : Bool → Pack
full plain =
    pack_of
    (record {
      DesignCapacity = 4000;
      full = 4000;
      remaining = 4000;
      DesignVoltage = 14800;
      MaxError = 0;
      CycleCount = 0;
      ManufactureDate = 0;
      SerialNumber = 0;
      ChargingCurrent = 2000;
      ChargingVoltage = 16800;
      TemperatureLimit = 3182;
      DischargeLimit = 11000;
      plain = plain;
    })
    (record { voltage = 16000; current = pos 0; temperature = 2981; counter = 0 })

-- what it sends as 100 mA flow in at 30 s
abbrev sent_then : Bool → List ℕ
sent_then plain = broadcast_of (moved_of (full plain) (record { voltage = 16400; current = pos 100; temperature = 2981; counter = 30000 }))

-- TERMINATE_CHARGE, INITIALIZED, FULLY_CHARGED and the low four bits are 40AF; ChargingCurrent is cut off; 16,800 is 41A0 (RULES 8.1 to 8.7)
abbrev pub BroadcastByHand : Type 0
BroadcastByHand =
    (sent_then false
    ≡ (0x10 ∷ 0x16 ∷ 0xAF ∷ 0x40 ∷ 0xA4 ∷ []) ++ (0x12 ∷ 0x16 ∷ 0xAF ∷ 0x40 ∷ 0x88 ∷ [])
    ++ (0x12 ∷ 0x14 ∷ 0x00 ∷ 0x00 ∷ 0x42 ∷ []) ++ (0x12 ∷ 0x15 ∷ 0xA0 ∷ 0x41 ∷ 0xF1 ∷ []))
    × (sent_then true
    ≡ (0x10 ∷ 0x16 ∷ 0xAF ∷ 0x40 ∷ []) ++ (0x12 ∷ 0x16 ∷ 0xAF ∷ 0x40 ∷ [])
    ++ (0x12 ∷ 0x14 ∷ 0x00 ∷ 0x00 ∷ []) ++ (0x12 ∷ 0x15 ∷ 0xA0 ∷ 0x41 ∷ []))
