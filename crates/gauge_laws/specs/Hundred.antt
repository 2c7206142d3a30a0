-- Request R-8: RelativeStateOfCharge needs no cap, as charge is never above full, learned full included.
-- Assumes nothing.
use Rattle.std.specs.Prelude.{ℕ, ◌≤◌, Bool, true, ◌↔◌, ◌≡◌}
use Rattle.capacity.specs.Capacity.{milliamp_ms, fully_discharged_of}
use Rattle.gauge.specs.Word.{word_of}
use Rattle.gauge_laws.specs.Before.{relative_before, fully_discharged_before}
use Rattle.gauge_laws.specs.Promises.{bit_of}
use Rattle.pack.specs.Sound.{sound_of}
use Rattle.pack.specs.declared.State.{State}

-- 1. 0D, which is floor(100 × charge ÷ full), is at most 100 for every sound state (RULES 6.12, 6.28)
abbrev pub RelativeMost : Type 0
RelativeMost = (s : State) → sound_of s ≡ true → word_of s 0x0D ≤ 100

-- 2. it is 100 exactly when charge is full (RULES 6.28)
abbrev pub HundredExactly : Type 0
HundredExactly = (s : State) → sound_of s ≡ true → (word_of s 0x0D ≡ 100) ↔ (s.pack.tank.charge ≡ milliamp_ms s.pack.tank.full)

-- 3. that is, exactly when 16 shows FULLY_CHARGED (RULES 6.22, 6.28)
abbrev pub HundredShown : Type 0
HundredShown = (s : State) → sound_of s ≡ true → (word_of s 0x0D ≡ 100) ↔ (bit_of 5 (word_of s 0x16) ≡ 1)

-- 4. it is the word that it was with the cap
abbrev pub RelativeOfBefore : Type 0
RelativeOfBefore = (s : State) → sound_of s ≡ true → word_of s 0x0D ≡ relative_before s.pack.tank.charge s.pack.tank.full

-- 5. bit 4 is decided as it was with the cap, whatever charge and full are (RULES 6.23)
abbrev pub BitOfBefore : Type 0
BitOfBefore = (before : Bool) (charge full : ℕ) → fully_discharged_of before charge full ≡ fully_discharged_before before charge full
