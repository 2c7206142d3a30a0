-- Document 01's twelve worked examples, the last by R-2's rule: one table over the definitions that the contracts cite.
-- Assumes nothing.
use Rattle.std.specs.Prelude.{ℕ, false, List, [], ◌∷◌, map, ◌≡◌, pos, negsuc}
use Rattle.std.specs.Int.{w16}
use Rattle.std.proofs.Common.{of_z}
use Rattle.recent.specs.Recent.{zero_recent, average_of}
use Rattle.seconds.specs.Seconds.{recent_after}
use Rattle.clock.specs.Sample.{elapsed_of}
use Rattle.gauge.specs.Word.{word_of}
use Rattle.key.specs.Key.{key_of, date_word}
use Rattle.start.specs.SetUp.{pack_of}
use Rattle.pack.specs.declared.Pack.{Pack}
use Rattle.pec.specs.Pec.{pec_of}
use Rattle.written.specs.Written.{pack_written}

-- what is computed, and what document 01 says; a number is a list of one
pub record Example : Type 0 where
  pub computed : List ℕ
  pub expected : List ℕ

abbrev number : ℕ → ℕ → Example
number computed expected = record { computed = computed ∷ []; expected = expected ∷ [] }

-- remaining 2,000 mAh of 4,000, at 14,800 mV
abbrev half_full : Pack
half_full =
    pack_of
    (record {
      DesignCapacity = 4000;
      full = 4000;
      remaining = 2000;
      DesignVoltage = 14800;
      MaxError = 0;
      CycleCount = 0;
      ManufactureDate = 0;
      SerialNumber = 0;
      ChargingCurrent = 0;
      ChargingVoltage = 0;
      TemperatureLimit = 0;
      DischargeLimit = 0;
      plain = false;
    })
    (record { voltage = 14800; current = pos 0; temperature = 0; counter = 0 })

-- the word of a command after a word was written to another
abbrev after : ℕ → ℕ → ℕ → ℕ
after to word command = word_of (record { error = 0; pack = pack_written half_full to word }) command

-- the table, in document 01's order and numbers (RULES 4, 6, 7, 11)
unfoldable pub examples : List Example
examples =
    number (pec_of []) 0x00
    ∷ number (pec_of (0x16 ∷ 0x80 ∷ 0x17 ∷ 0x4D ∷ 0x00 ∷ 0x01 ∷ 0x00 ∷ [])) 0x98
    ∷ number (pec_of (0x16 ∷ 0x09 ∷ 0x17 ∷ 0xD0 ∷ 0x39 ∷ [])) 0x7E
    ∷ number (pec_of (0x16 ∷ 0x02 ∷ 0x0A ∷ 0x00 ∷ [])) 0x47
    ∷ number (date_word 2021 3 15) 0x526F
    ∷ record {
      computed = key_of (0x41 ∷ 0x2F ∷ 0x42 ∷ []) (0x50 ∷ 0x37 ∷ []) (date_word 2021 3 15) 17;
      expected = 0x41 ∷ 0x5C ∷ 0x2F ∷ 0x42 ∷ 0x2F ∷ 0x50 ∷ 0x37 ∷ 0x2F ∷ 0x35 ∷ 0x32 ∷ 0x36 ∷ 0x66 ∷ 0x2F ∷ 0x30 ∷ 0x30 ∷ 0x31 ∷ 0x31 ∷ [];
    }
    ∷ number (after 0x04 (of_z w16 (negsuc 32767)) 0x06) 3
    ∷ number (after 0x04 (of_z w16 (pos 0)) 0x06) 65535
    ∷ number (after 0x04 (of_z w16 (negsuc 0)) 0x06) 65534
    ∷ number (after 0x03 0x8000 0x0F) 2960
    ∷ number (elapsed_of 4 4294967290) 10
    ∷ number (average_of (recent_after (recent_after zero_recent (of_z w16 (negsuc 4)) 1000) (of_z w16 (pos 2)) 1000) (of_z w16 (pos 2))) (of_z w16 (negsuc 0))
    ∷ []

-- the two columns are equal
abbrev pub AsExpected : Type 0
AsExpected = map (λ (e : Example). e.computed) examples ≡ map (λ (e : Example). e.expected) examples
