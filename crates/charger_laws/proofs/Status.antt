-- Each bit of ChargerStatus at its place; a request that isn't met, in integers.
-- Assumes nothing.
use Prim.Native.Nat.{ℕ, ◌+◌}
use mathlib.Core.Bool.{Bool, true, false, ◌&&◌, ◌||◌}
use mathlib.Core.List.{[], ◌∷◌, map}
use mathlib.Core.Path.{◌≡◌, refl, sym, ap, ◌∙◌}
use borrow.Author.Tests.{le-leb, lt-leb}
use lib.Dec.{ltb}
use lib.IntN.{ℤ, pos}
use lib.Signed.{lt_z}
use mir.Syntax.{w16}
use mir.Val.{to_z}
use mir.ValLaws.{to_z-of_z}
use Rattle.charger_state.specs.Charger.{alarm_inhibited, voltage_not_met, current_not_met, status_of}
use Rattle.charger_state.specs.declared.Charger.{Charger}
use Rattle.charger_laws.specs.Promises.{StatusBits, NotMetTrue}
use Rattle.pack.specs.declared.Latest.{Latest}
use Rattle.registers.specs.Registers.{bit}
use Rattle.words.proofs.Integers.{split, low, high}
use Rattle.words.specs.Words.{below}
use Rattle.written.specs.Written.{bit_set}

-- the word of the four bits that change
abbrev word_with : Bool → Bool → Bool → Bool → ℕ
word_with inhibited voltage current alarm =
    bit 15 true + bit 14 true + bit 13 false + bit 12 alarm
    + bit 11 false + bit 10 false + bit 9 false + bit 8 false + bit 7 false + bit 6 false
    + bit 5 false + bit 4 true + bit 3 current + bit 2 voltage + bit 1 false + bit 0 inhibited

each : (i v c a : Bool)
    → map (λ k. bit_set k (word_with i v c a)) (0 ∷ 1 ∷ 2 ∷ 3 ∷ 4 ∷ 5 ∷ 6 ∷ 7 ∷ 8 ∷ 9 ∷ 10 ∷ 11 ∷ 12 ∷ 13 ∷ 14 ∷ 15 ∷ [])
    ≡ i ∷ false ∷ v ∷ c ∷ true ∷ false ∷ false ∷ false ∷ false ∷ false ∷ false ∷ false ∷ a ∷ false ∷ true ∷ true ∷ []
each true true true true = refl
each true true true false = refl
each true true false true = refl
each true true false false = refl
each true false true true = refl
each true false true false = refl
each true false false true = refl
each true false false false = refl
each false true true true = refl
each false true true false = refl
each false true false true = refl
each false true false false = refl
each false false true true = refl
each false false true false = refl
each false false false true = refl
each false false false false = refl

pub status-bits : StatusBits
unfolding status_of
status-bits s = each s.inhibited (voltage_not_met s) (current_not_met s) (alarm_inhibited s)

-- a word is below a number exactly where its integer is
below_word : (w n : ℕ) → below w || ltb w n ≡ lt_z (to_z w16 w) (pos n)
below_word w n =
    split w 32768 (λ h. ap (λ (b : Bool). b || ltb w n) (lt-leb 32768 w h) ∙ ap (λ (z : ℤ). lt_z z (pos n)) (sym (low w h)))
    (λ h. ap (λ (b : Bool). b || ltb w n) (le-leb 32768 w h) ∙ ap (λ (z : ℤ). lt_z z (pos n)) (sym (high w h)))

pub not_met_true : NotMetTrue
not_met_true s x f e =
    ap (λ (b : Bool). s.ChargingCurrent.taken && b)
    (below_word s.latest.current s.ChargingCurrent.word
    ∙ ap (λ (l : Latest). lt_z (to_z w16 l.current) (pos s.ChargingCurrent.word)) e
    ∙ ap (λ (z : ℤ). lt_z z (pos s.ChargingCurrent.word)) (to_z-of_z w16 x.current f.current))
