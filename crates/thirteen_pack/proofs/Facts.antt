-- What the test of a sound pack says, fact by fact, and back.
-- Assumes nothing.
use Prim.Native.Nat.{ℕ, ◌≤◌}
use mathlib.Core.Bool.{true, and-eq-true_iff}
use mathlib.Core.Path.{◌≡◌}
use native.Mathlib.Omega.{arith}
use borrow.Author.Tests.{ne_eqb, le-leb, leb-true, not-true}
use Rattle.pack.proofs.Soundness.{not_zero}
use Rattle.pack.specs.Sound.{error_sound}
use Rattle.thirteen_pack.specs.Facts.{SoundFacts}
use Rattle.thirteen_pack.specs.Sound.{pack_sound, sound_of}
use Rattle.thirteen_pack.specs.declared.Thirteen.{Thirteen}
use Rattle.thirteen_pack.specs.declared.ThirteenState.{ThirteenState}

pub facts : (p : Thirteen) → pack_sound p ≡ true → SoundFacts p
unfolding pack_sound
facts p h =
    let b2 = (and-eq-true_iff _ _).0 h in
    let b1 = (and-eq-true_iff _ _).0 b2.0 in
    let fixed = (and-eq-true_iff _ _).0 b1.0 in
    let level = (and-eq-true_iff _ _).0 b1.1 in
    record {
      design = not_zero _ (not-true _ fixed.0);
      voltage = not_zero _ (not-true _ fixed.1);
      full = not_zero _ (not-true _ level.0);
      charge = leb-true _ _ level.1;
      recent = b2.1;
    }

pub pack-sound : (p : Thirteen) → SoundFacts p → pack_sound p ≡ true
unfolding pack_sound
pack-sound p f =
    simp (
      ne_eqb p.fixed.DesignCapacity 0 (omega (arith, f.design)),
      ne_eqb p.fixed.DesignVoltage 0 (omega (arith, f.voltage)),
      ne_eqb p.level.full 0 (omega (arith, f.full)),
      le-leb _ _ f.charge,
      f.recent,
    )

-- a sound state's pack is sound, its error code at most 7; and back
pub pack_of_sound : (s : ThirteenState) → sound_of s ≡ true → pack_sound s.pack ≡ true
unfolding sound_of
pack_of_sound s h = ((and-eq-true_iff _ _).0 h).0

pub facts_of_sound : (s : ThirteenState) → sound_of s ≡ true → SoundFacts s.pack
facts_of_sound s h = facts s.pack (pack_of_sound s h)

pub code_of_sound : (s : ThirteenState) → sound_of s ≡ true → s.error ≤ 7
unfolding sound_of error_sound
code_of_sound s h = leb-true _ _ ((and-eq-true_iff (pack_sound s.pack) (error_sound s.error)).0 h).1

pub sound_state : (s : ThirteenState) → pack_sound s.pack ≡ true → s.error ≤ 7 → sound_of s ≡ true
unfolding sound_of error_sound
sound_state s h l = simp (h, le-leb _ _ l)
