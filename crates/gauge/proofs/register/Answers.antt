-- `gauge::register` meets its contract: each arm by its key, the default by all the keys that it isn't.
-- Assumes nothing.
use Prim.Native.Nat.{ℕ, zero, suc, ◌+◌, ◌-◌, ◌≤◌}
use borrow.Author.Rules.{rules}
use borrow.Author.Tests.{ne_eqb, ltb-true}
use mathlib.Core.Bool.{true, false}
use mathlib.Core.Path.{◌≡◌, refl, ap, ◌∙◌, sym}
use lib.Dec.{eqb, ltb}
use native.Mathlib.Omega.{arith}
use Rattle.gauge.specs.Word.{given_of}
use Rattle.minutes.specs.declared.Given.{Given}
use Rattle.minutes.specs.declared.Given.TheVariants.{Word, Until}
use Rattle.pack.proofs.Soundness.{parts, pack_of_sound}
use Rattle.pack.specs.Facts.{SoundParts}
use Rattle.pack.specs.Sound.{sound_of}
use Rattle.pack.specs.declared.State.{State}
use Rattle.gauge.proofs.register.Goals as goal

parts-of : (s : State) → sound_of s ≡ true → SoundParts s.pack
parts-of s h = parts s.pack (pack_of_sound s h)

here : (s : State) (n k : ℕ) (x : Given) → n ≡ k → x ≡ given_of s k → x ≡ given_of s n
here s n k x e h = h ∙ ap (given_of s) (sym e)

-- a number that is none of the first keys stands past them
abbrev Unlike : ℕ → ℕ → Type 0
Unlike n zero = Unit {0}
Unlike n (suc k) = Unlike n k × (n ≡ k → ⊥)

past_all : (n k : ℕ) → Unlike n k → k ≤ n
past_all n zero h = omega arith
past_all n (suc k) h = omega (arith, past_all n k h.0, h.1)

past : (k key : ℕ) → ltb key 0x1D ≡ true → eqb (0x1D + k) key ≡ false
past k key h = ne_eqb (0x1D + k) key (λ e. omega (arith, ltb-true key 0x1D h))

none : (s : State) (n : ℕ) → 0x1D ≤ n → Word 0 ≡ given_of s n
unfolding given_of
none s n h = here s n (0x1D + (n - 0x1D)) (Word 0) (omega arith) (simp past)

pub at_rate_time_to_full-requires : goal.at_rate_time_to_full-requires
unfolding given_of
at_rate_time_to_full-requires c = (parts-of c.args.s c.requires).tank

pub at_rate_time_to_empty-requires : goal.at_rate_time_to_empty-requires
unfolding given_of
at_rate_time_to_empty-requires c = (parts-of c.args.s c.requires).tank

pub at_rate_ok-requires : goal.at_rate_ok-requires
unfolding given_of
at_rate_ok-requires c = (parts-of c.args.s c.requires).tank

pub average_current-requires : goal.average_current-requires
unfolding given_of
average_current-requires c = (parts-of c.args.s c.requires).recent

pub relative_state_of_charge-requires : goal.relative_state_of_charge-requires
unfolding given_of
relative_state_of_charge-requires c = (parts-of c.args.s c.requires).tank

pub absolute_state_of_charge-requires : goal.absolute_state_of_charge-requires
unfolding given_of
absolute_state_of_charge-requires c = let f = parts-of c.args.s c.requires in (f.settings, f.tank)

pub remaining_capacity-requires : goal.remaining_capacity-requires
unfolding given_of
remaining_capacity-requires c = (parts-of c.args.s c.requires).tank

pub run_time_to_empty-requires : goal.run_time_to_empty-requires
unfolding given_of
run_time_to_empty-requires c = (parts-of c.args.s c.requires).tank

pub average_time_to_empty-requires : goal.average_time_to_empty-requires
unfolding given_of
average_time_to_empty-requires c = let f = parts-of c.args.s c.requires in (f.tank, f.recent)

pub average_time_to_full-requires : goal.average_time_to_full-requires
unfolding given_of
average_time_to_full-requires c = let f = parts-of c.args.s c.requires in (f.tank, f.recent)

pub battery_status-requires : goal.battery_status-requires
unfolding given_of
battery_status-requires c = let f = parts-of c.args.s c.requires in (f.tank, f.recent)

pub returns-in-0 : goal.returns-in-0
unfolding given_of
returns-in-0 c = here c.args.s _ 0x00 _ c.in-0.is refl

pub returns-in-1 : goal.returns-in-1
unfolding given_of
returns-in-1 c = here c.args.s _ 0x01 _ c.in-1.is refl

pub returns-in-2 : goal.returns-in-2
unfolding given_of
returns-in-2 c = here c.args.s _ 0x02 _ c.in-2.is refl

pub returns-in-3 : goal.returns-in-3
unfolding given_of
returns-in-3 c = here c.args.s _ 0x03 _ c.in-3.is (ap Word c.mode.ensures)

pub returns-in-4 : goal.returns-in-4
unfolding given_of
returns-in-4 c = here c.args.s _ 0x04 _ c.in-4.is refl

pub returns-in-5 : goal.returns-in-5
unfolding given_of
returns-in-5 c = here c.args.s _ 0x05 _ c.in-5.is c.at_rate_time_to_full.ensures

pub returns-in-6 : goal.returns-in-6
unfolding given_of
returns-in-6 c = here c.args.s _ 0x06 _ c.in-6.is (ap Until c.at_rate_time_to_empty.ensures)

pub returns-in-7 : goal.returns-in-7
unfolding given_of
returns-in-7 c = here c.args.s _ 0x07 _ c.in-7.is (ap Word c.at_rate_ok.ensures)

pub returns-in-8 : goal.returns-in-8
unfolding given_of
returns-in-8 c = here c.args.s _ 0x08 _ c.in-8.is refl

pub returns-in-9 : goal.returns-in-9
unfolding given_of
returns-in-9 c = here c.args.s _ 0x09 _ c.in-9.is refl

pub returns-in-10 : goal.returns-in-10
unfolding given_of
returns-in-10 c = here c.args.s _ 0x0A _ c.in-10.is refl

pub returns-in-11 : goal.returns-in-11
unfolding given_of
returns-in-11 c = here c.args.s _ 0x0B _ c.in-11.is (ap Word c.average_current.ensures)

pub returns-in-12 : goal.returns-in-12
unfolding given_of
returns-in-12 c = here c.args.s _ 0x0C _ c.in-12.is refl

pub returns-in-13 : goal.returns-in-13
unfolding given_of
returns-in-13 c = here c.args.s _ 0x0D _ c.in-13.is (ap Word c.relative_state_of_charge.ensures)

pub returns-in-14 : goal.returns-in-14
unfolding given_of
returns-in-14 c = here c.args.s _ 0x0E _ c.in-14.is (ap Word c.absolute_state_of_charge.ensures)

pub returns-in-15 : goal.returns-in-15
unfolding given_of
returns-in-15 c = here c.args.s _ 0x0F _ c.in-15.is (ap Word c.remaining_capacity.ensures)

pub returns-in-16 : goal.returns-in-16
unfolding given_of
returns-in-16 c = here c.args.s _ 0x10 _ c.in-16.is (ap Word c.full_charge_capacity.ensures)

pub returns-in-17 : goal.returns-in-17
unfolding given_of
returns-in-17 c = here c.args.s _ 0x11 _ c.in-17.is (ap Until c.run_time_to_empty.ensures)

pub returns-in-18 : goal.returns-in-18
unfolding given_of
returns-in-18 c = here c.args.s _ 0x12 _ c.in-18.is (ap Until c.average_time_to_empty.ensures)

pub returns-in-19 : goal.returns-in-19
unfolding given_of
returns-in-19 c = here c.args.s _ 0x13 _ c.in-19.is (ap Until c.average_time_to_full.ensures)

pub returns-in-20 : goal.returns-in-20
unfolding given_of
returns-in-20 c = here c.args.s _ 0x14 _ c.in-20.is (ap Word c.charging_current.ensures)

pub returns-in-21 : goal.returns-in-21
unfolding given_of
returns-in-21 c = here c.args.s _ 0x15 _ c.in-21.is refl

pub returns-in-22 : goal.returns-in-22
unfolding given_of
returns-in-22 c = here c.args.s _ 0x16 _ c.in-22.is (ap Word c.battery_status.ensures)

pub returns-in-23 : goal.returns-in-23
unfolding given_of
returns-in-23 c = here c.args.s _ 0x17 _ c.in-23.is refl

pub returns-in-24 : goal.returns-in-24
unfolding given_of
returns-in-24 c = here c.args.s _ 0x18 _ c.in-24.is (ap Word c.design_capacity.ensures)

pub returns-in-25 : goal.returns-in-25
unfolding given_of
returns-in-25 c = here c.args.s _ 0x19 _ c.in-25.is refl

pub returns-in-26 : goal.returns-in-26
unfolding given_of
returns-in-26 c = here c.args.s _ 0x1A _ c.in-26.is refl

pub returns-in-27 : goal.returns-in-27
unfolding given_of
returns-in-27 c = here c.args.s _ 0x1B _ c.in-27.is refl

pub returns-in-28 : goal.returns-in-28
unfolding given_of
returns-in-28 c = here c.args.s _ 0x1C _ c.in-28.is refl

pub returns-in_default : goal.returns-in_default
unfolding given_of
returns-in_default c = none c.args.s c.args.command (past_all c.args.command 0x1D c.in_default.in_default-own.rest)
