-- What a call, a write and a sample can leave, by cases.
-- Assumes nothing.
use Prim.Native.Nat.{ℕ}
use mathlib.Core.Bool.{Bool, true, false, cond, not, ◌&&◌}
use mathlib.Core.List.{List}
use mathlib.Core.Path.{◌≡◌, refl, sym, ap, ◌∙◌}
use lib.Dec.{eqb}
use Rattle.rooms.proofs.Choice.{chosen}
use Rattle.charger_state.specs.Charger.{power_on, sound_of, sampled_of, sample_of}
use Rattle.charger.specs.Transact.{charger_after, asked, transact_answer, transact_of}
use Rattle.charger_written.specs.Written.{zeroed_if, mode_written, current_written, voltage_written, alarm_written, charger_written}
use Rattle.charger_state.specs.declared.Charger.{Charger}
use Rattle.pack.specs.declared.Answered.{Answered}
use Rattle.charger_laws.specs.Events.{Call, result, answer, call, writes, takes}
use Rattle.commands.specs.Answers.{served}
use Rattle.frame.specs.declared.Request.{Request}
use Rattle.frame.specs.declared.Request.TheVariants.{Refused, Read, Write}
use Rattle.pack.specs.declared.Sample.{Sample}
use Rattle.written.specs.Written.{bit_set}

-- a call leaves the state as it was, or takes a word
pub call_cases : (P : Charger → Type 0) (s : Charger) (c : Call) → P s
    → ((command word : ℕ) (checked : Bool) → asked c.read c.bytes ≡ Write command word checked → served (answer s c) ≡ true → P (charger_written s command word))
    → P (result s c).state
unfolding transact_of
call_cases P s c h t = go (asked c.read c.bytes) refl
  where
    go : (q : Request) → asked c.read c.bytes ≡ q → P (charger_after s q (answer s c))
    go (Refused n) e = h
    go (Read command) e = h
    go (Write command word checked) e = chosen P (served (answer s c)) (λ v. t command word checked e v) (λ v. h)

-- which isn't a word for a command of which none is taken
pub not_taken : (k : ℕ) (s : Charger) (c : Call) (command word : ℕ) (checked : Bool)
    → asked c.read c.bytes ≡ Write command word checked → served (answer s c) ≡ true → takes k s (call c) ≡ false → eqb command k ≡ false
not_taken k s c command word checked e v n =
    sym (ap (λ (b : Bool). b && writes k (asked c.read c.bytes)) v ∙ ap (λ (q : Request). writes k q) e) ∙ n

-- what a write leaves
pub write_cases : (P : Charger → Type 0) (s : Charger) (command word : ℕ) → P (power_on s.count s.latest)
    → P (record { ChargingCurrent = zeroed_if (bit_set 3 word) s.ChargingCurrent; ChargingVoltage = zeroed_if (bit_set 3 word) s.ChargingVoltage; inhibited = bit_set 0 word; count = s.count; latest = s.latest })
    → (eqb command 0x14 ≡ true → P (current_written s word)) → (eqb command 0x15 ≡ true → P (voltage_written s word)) → P (alarm_written s word) → P s
    → P (charger_written s command word)
unfolding charger_written mode_written
write_cases P s command word reset mode current voltage alarm none =
    chosen P (eqb command 0x12) (λ e. chosen P (bit_set 2 word) (λ b. reset) (λ b. mode))
    (λ e. chosen P (eqb command 0x14) current (λ f. chosen P (eqb command 0x15) voltage (λ g. chosen P (eqb command 0x16) (λ i. alarm) (λ i. none))))

-- a sample gives 1 and the state as it was, or 0 and goes on
pub sample_cases : (P : Answered Charger → Type 0) (s : Charger) (x : Sample) → (sound_of s ≡ false → P (record { answer = 1; state = s }))
    → (sound_of s ≡ true → P (record { answer = 0; state = sampled_of s x })) → P (sample_of s x)
unfolding sample_of
sample_cases P s x h t = go (sound_of s) refl
  where
    go : (b : Bool) → sound_of s ≡ b → P (cond (not b) (record { answer = 1; state = s }) (record { answer = 0; state = sampled_of s x }))
    go true e = t e
    go false e = h e

-- on a sound state it goes on
pub sample_goes_on : (s : Charger) (x : Sample) → sound_of s ≡ true → sample_of s x ≡ record { answer = 0; state = sampled_of s x }
unfolding sample_of
sample_goes_on s x h = simp h
