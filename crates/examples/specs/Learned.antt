-- Requests R-4 and R-8 worked by hand: a pack of 4,000 mAh, full at set-up and worn to 3,750. At −1,000 mA an hour draws 1,000 mAh.
-- Assumes nothing.
use Rattle.std.specs.Prelude.{ℕ, false, List, [], ◌∷◌, ◌++◌, ◌≡◌, ℤ, pos, negsuc}
use Rattle.clock.specs.Broadcast.{sampled_of}
use Rattle.gauge.specs.Word.{word_of}
use Rattle.start.specs.SetUp.{pack_of}
use Rattle.pack.specs.declared.Pack.{Pack}

-- full, with 5 cycles; TERMINATE_DISCHARGE is set below 12,000 mV
abbrev full : Pack
full =
    pack_of
    (record {
      DesignCapacity = 4000;
      full = 4000;
      remaining = 4000;
      DesignVoltage = 14800;
      MaxError = 0;
      CycleCount = 5;
      ManufactureDate = 0;
      SerialNumber = 0;
      ChargingCurrent = 0;
      ChargingVoltage = 0;
      TemperatureLimit = 4000;
      DischargeLimit = 12000;
      plain = false;
    })
    (record { voltage = 16000; current = pos 0; temperature = 2931; counter = 0 })

-- a sample at a voltage, a current and a reading in ms
abbrev sampled_at : Pack → ℕ → ℤ → ℕ → Pack
sampled_at p voltage current counter = sampled_of p (record { voltage = voltage; current = current; temperature = 2931; counter = counter })

-- three and a half hours at −1,000 mA: 3,500 mAh drawn
abbrev low : Pack
low = sampled_at full 12500 (negsuc 999) 12600000

-- a quarter of an hour more, and the voltage is below its limit: 3,750
abbrev empty : Pack
empty = sampled_at low 11900 (negsuc 999) 13500000

-- and another quarter, though it is empty: 4,000
abbrev more : Pack
more = sampled_at empty 11000 (negsuc 999) 14400000

-- instead of the close a minute of charging at 1,000 mA
abbrev charged : Pack
charged = sampled_at low 15000 (pos 1000) 12660000

-- 0F, 10 and 17
abbrev capacities : Pack → List ℕ
capacities p = word_of (record { error = 0; pack = p }) 0x0F ∷ word_of (record { error = 0; pack = p }) 0x10 ∷ word_of (record { error = 0; pack = p }) 0x17 ∷ []

-- then a quarter of an hour below the limit: no run is open, so nothing is learned
abbrev later : Pack
later = sampled_at charged 11900 (negsuc 999) 13560000

-- what each shows (RULES 7.9 to 7.14)
abbrev pub LearnedByHand : Type 0
LearnedByHand =
    capacities full ++ capacities low ++ capacities empty ++ capacities more ++ capacities later
    ≡ (4000 ∷ 4000 ∷ 5 ∷ []) ++ (500 ∷ 4000 ∷ 5 ∷ []) ++ (0 ∷ 3750 ∷ 5 ∷ []) ++ (0 ∷ 3750 ∷ 6 ∷ []) ++ (266 ∷ 4000 ∷ 5 ∷ [])

-- charged again from empty at 1,000 mA, for three and three quarter hours, less one ms of it and in all
abbrev nearly : Pack
nearly = sampled_at empty 16000 (pos 1000) 26999999

abbrev again : Pack
again = sampled_at empty 16000 (pos 1000) 27000000

-- 0D and 0E
abbrev percents : Pack → List ℕ
percents p = word_of (record { error = 0; pack = p }) 0x0D ∷ word_of (record { error = 0; pack = p }) 0x0E ∷ []

-- 500 mAh are 12.5 percent of 4,000; one ms short of the learned 3,750 there is a bit less than 100 percent; 3,750 are 93.75 of design (RULES 6.12, 6.13, 6.28)
abbrev pub PercentsByHand : Type 0
PercentsByHand =
    percents full ++ percents low ++ percents empty ++ percents nearly ++ percents again
    ≡ (100 ∷ 100 ∷ []) ++ (12 ∷ 12 ∷ []) ++ (0 ∷ 0 ∷ []) ++ (99 ∷ 93 ∷ []) ++ (100 ∷ 93 ∷ [])
