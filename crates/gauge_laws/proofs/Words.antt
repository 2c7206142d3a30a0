-- What the words say of each other, and what the error code can change.
-- Assumes nothing.
use Prim.Native.Nat.{ℕ, ◌/◌, ◌%◌, ◌<◌}
use mathlib.Core.Bool.{Bool, true, false, cond}
use mathlib.Core.Path.{◌≡◌, refl, ap, ◌∙◌, sym, subst}
use native.Mathlib.Omega.{arith}
use borrow.Author.Tests.{ne_eqb}
use Rattle.alarms.specs.Alarms.{terminate_charge}
use Rattle.status.specs.Status.{status_bits}
use Rattle.gauge.specs.Word.{given_of, word_of}
use Rattle.gauge_laws.proofs.Bits.{digit_set, above_code, bits_stand}
use Rattle.gauge_laws.specs.Promises.{Initially, InitialWords, AlwaysInitialized, ChargingCurrentOff, RemainingAtMostFull}
use Rattle.pack.proofs.Soundness.{parts, pack_of_sound}
use Rattle.start.specs.SetUp.{set_up_of, set_up_refused, pack_of, zero_state}
use Rattle.pack.specs.declared.Sample.{Sample}
use Rattle.start.specs.declared.Setup.{Setup}
use Rattle.pack.specs.declared.Answered.{Answered}
use Rattle.pack.specs.declared.State.{State}
use Rattle.registers.proofs.Laws.{remaining_at_most_full}
use Rattle.registers.specs.Registers.{design_capacity}

-- the error code shows in no word but 16
pub other_words : (s t : State) (command : ℕ) → s.pack ≡ t.pack → (command ≡ 0x16 → ⊥) → word_of s command ≡ word_of t command
unfolding given_of
other_words s t command e n = simp (ne_eqb command 0x16 n, e)

-- and there only in the low four bits
pub status_above_code : (s t : State) → s.pack ≡ t.pack → s.error < 16 → t.error < 16 → word_of s 0x16 / 16 ≡ word_of t 0x16 / 16
unfolding given_of
status_above_code s t e l m =
    above_code s.pack s.error l ∙ ap (λ p. status_bits p / 16) e ∙ sym (above_code t.pack t.error m)

-- which are it
pub status_code : (s : State) → s.error < 16 → word_of s 0x16 % 16 ≡ s.error
unfolding given_of
status_code s l = (bits_stand s.pack s.error l).error_code

-- INITIALIZED is always 1
pub initialized : AlwaysInitialized
unfolding given_of
initialized s l = (bits_stand s.pack s.error l).INITIALIZED

-- 0F is never above 10
pub remaining_word_most : RemainingAtMostFull
unfolding given_of
remaining_word_most s h = remaining_at_most_full s.pack (parts s.pack (pack_of_sound s h)).tank

-- 14 is 0 while bit 14 of 16 is set
pub charging_current_off : ChargingCurrentOff
unfolding given_of
charging_current_off s l h =
    let p = s.pack in
    ap (λ (off : Bool). cond off 0 p.settings.ChargingCurrent) (digit_set (terminate_charge p) (sym (bits_stand p s.error l).TERMINATE_CHARGE ∙ h))

abbrev refused : Answered State
refused = record { answer = 11; state = zero_state }

abbrev served : Setup → Sample → Answered State
served u first = record { answer = 0; state = record { error = 0; pack = pack_of u first } }

chosen : (u : Setup) (first : Sample) (b : Bool) → (cond b refused (served u first)).answer ≡ 0 → cond b refused (served u first) ≡ served u first
chosen u first true h = absurd (omega (arith, h))
chosen u first false h = refl

at_first : (u : Setup) (first : Sample) → Initially (served u first).state
unfolding given_of design_capacity pack_of
at_first u first =
    record {
      RemainingCapacityAlarm = refl;
      RemainingTimeAlarm = refl;
      BatteryMode = refl;
      INITIALIZED = initialized (served u first).state (omega arith);
    }

-- a served set-up gives them
pub initially : InitialWords
unfolding set_up_of
initially u first h = subst (λ (r : Answered State). Initially r.state) (sym (chosen u first (set_up_refused u) h)) (at_first u first)
