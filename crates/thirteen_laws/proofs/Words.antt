-- Every word within its range, and each bit of BatteryStatus at its place.
-- Assumes nothing.
use Prim.Native.Nat.{ℕ, zero, suc, ◌+◌, ◌-◌, ◌*◌, ◌/◌, ◌≤◌, ◌<◌}
use mathlib.Core.Bool.{Bool, true, cond}
use mathlib.Core.List.{List, [], ◌∷◌}
use mathlib.Core.Path.{◌≡◌, refl, sym, ap, ◌∙◌, subst}
use native.Mathlib.Omega.{arith}
use borrow.Author.Tests.{le-leb}
use lib.Dec.{eqb}
use lib.IntN.{ℤ, pos, negsuc, neg_ℤ}
use lib.ListN.{get_or}
use lib.Signed.{le_z, quot_z}
use mir.Facts.{to_z-of_z}
use mir.Syntax.{w16}
use mir.Val.{SFits, to_z, of_z}
use Rattle.capacity.proofs.Bounds.{percent_most}
use Rattle.commands.specs.Commands.{from}
use Rattle.gauge_laws.proofs.Bits.{digit_most, weighed}
use Rattle.gauge_laws.proofs.Range.{row}
use Rattle.gauge_laws.specs.Promises.{digit}
use Rattle.minutes.proofs.Laws.{time_word_below}
use Rattle.minutes.specs.Minutes.{given_word}
use Rattle.minutes.specs.declared.Given.{Given}
use Rattle.pack.proofs.Kept.{word_fits}
use Rattle.recent.specs.Fits.{Below}
use Rattle.thirteen_laws.specs.Promises.{WordBelow, RelativeMost, VoltageMost, CurrentBetween, EachBit}
use Rattle.thirteen_pack.proofs.Facts.{facts_of_sound}
use Rattle.thirteen_pack.specs.declared.Thirteen.{Thirteen}
use Rattle.thirteen_status.proofs.Bits.{nine}
use Rattle.thirteen_status.specs.Status.{over_temperature, under_temperature, discharge_over_current, charge_over_current, over_voltage, under_voltage, fully_charged, status_of}
use Rattle.thirteen_words.specs.Word.{remaining, average_current, given_of}
use Rattle.words.proofs.Integers.{split, low, high}
use Rattle.words.specs.Words.{above, below, size_of}

-- ---- 16 BatteryStatus

-- the status word as digits by weight, each at most 1
record Digits (p : Thirteen) : Type 0 where
  is : status_of p ≡
      8192 * digit (over_temperature p.latest) + 4096 * digit (under_temperature p.latest)
      + 2048 * digit (discharge_over_current p.latest) + 1024 * digit (charge_over_current p.latest)
      + 512 * digit (over_voltage p.latest) + 256 * digit (under_voltage p.latest)
      + 128 + 64 * digit (below p.latest.current) + 32 * digit (fully_charged p.latest) + 16 * digit p.level.FullyDischarged
  d13 : digit (over_temperature p.latest) ≤ 1
  d12 : digit (under_temperature p.latest) ≤ 1
  d11 : digit (discharge_over_current p.latest) ≤ 1
  d10 : digit (charge_over_current p.latest) ≤ 1
  d9 : digit (over_voltage p.latest) ≤ 1
  d8 : digit (under_voltage p.latest) ≤ 1
  d6 : digit (below p.latest.current) ≤ 1
  d5 : digit (fully_charged p.latest) ≤ 1
  d4 : digit p.level.FullyDischarged ≤ 1

digits : (p : Thirteen) → Digits p
unfolding status_of
digits p =
    record {
      is =
          nine
          (weighed 13 (over_temperature p.latest))
          (weighed 12 (under_temperature p.latest))
          (weighed 11 (discharge_over_current p.latest))
          (weighed 10 (charge_over_current p.latest))
          (weighed 9 (over_voltage p.latest))
          (weighed 8 (under_voltage p.latest))
          (weighed 6 (below p.latest.current))
          (weighed 5 (fully_charged p.latest))
          (weighed 4 p.level.FullyDischarged);
      d13 = digit_most (over_temperature p.latest);
      d12 = digit_most (under_temperature p.latest);
      d11 = digit_most (discharge_over_current p.latest);
      d10 = digit_most (charge_over_current p.latest);
      d9 = digit_most (over_voltage p.latest);
      d8 = digit_most (under_voltage p.latest);
      d6 = digit_most (below p.latest.current);
      d5 = digit_most (fully_charged p.latest);
      d4 = digit_most p.level.FullyDischarged;
    }

-- all bits above the error code set but 15 and 14
status_most : (p : Thirteen) → status_of p ≤ 16368
status_most p = let d = digits p in omega arith

pub bits_stand : EachBit
unfolding given_of
bits_stand p = let d = digits p in search arith

-- ---- 0A

-- a number in the range of the tens of 16 bits
record Tens (z : ℤ) : Type 0 where
  least : le_z (neg_ℤ (pos 3276)) z ≡ true
  most : le_z z (pos 3276) ≡ true
  fits : SFits w16 z

up : (n : ℕ) → n ≤ 3276 → Tens (pos n)
up n h = record { least = refl; most = le-leb n 3276 h; fits = record { sfits = omega (arith, h) } }

down : (n : ℕ) → n ≤ 3276 → Tens (neg_ℤ (pos n))
down zero h = up 0 h
down (suc k) h = record { least = le-leb k 3275 (omega (arith, h)); most = refl; fits = record { sfits = omega (arith, h) } }

tens : (current : ℕ) → current < 65536 → Tens (quot_z (to_z w16 current) (pos 10))
tens w l =
    split w 32768 (λ h. subst (λ z. Tens (quot_z z (pos 10))) (sym (low w h)) (up (w / 10) (omega (arith, h))))
    (λ h. subst (λ z. Tens (quot_z z (pos 10))) (sym (high w h)) (down (suc (65536 - suc w) / 10) (omega (arith, h))))

pub current_between : CurrentBetween
current_between w l =
    let t = tens w l in
    let e = to_z-of_z t.fits in
    (ap (le_z (neg_ℤ (pos 3276))) e ∙ t.least, ap (λ z. le_z z (pos 3276)) e ∙ t.most)

-- ---- every word

-- a cell's voltage is a word
cell_below : (cells : List ℕ) (i : ℕ) → Below 65536 cells → get_or cells i 0 < 65536
cell_below [] i h = omega arith
cell_below (c ∷ cs) zero h = h.0
cell_below (c ∷ cs) (suc i) h = cell_below cs i h.1

pub word_below : WordBelow
unfolding given_of
word_below s command h f =
    let p = s.pack in
    let now = p.latest.current in
    let mean = average_current p in
    let relative = percent_most p.level.charge p.level.full (facts_of_sound s h).charge in
    row (eqb command 0x08) _ _ f.latest.temperature
    (row (eqb command 0x09) _ _ (omega (arith, f.latest.voltage))
    (row (eqb command 0x0A) _ _ (word_fits _ (tens now f.latest.current).fits)
    (row (eqb command 0x0D) _ _ (omega (arith, relative))
    (row (eqb command 0x11) _ _ (time_word_below (below now) (remaining p) (size_of now))
    (row (eqb command 0x13) _ _ (time_word_below (above mean) (p.level.full - remaining p) (size_of mean))
    (row (eqb command 0x16) _ _ (omega (arith, status_most p))
    (row (from 0x31 0x3D command) _ _ (cell_below p.cells (command - 0x31) f.cells.words)
    (row (eqb command 0x4F) _ _ f.fixed.StateOfHealth (omega arith)))))))))

pub relative_most : RelativeMost
unfolding given_of
relative_most s h = percent_most s.pack.level.charge s.pack.level.full (facts_of_sound s h).charge

pub voltage_most : VoltageMost
unfolding given_of
voltage_most p f = omega (arith, f.latest.voltage)
