-- The theorems on the thirteen-cell pack's areas. (That each gives the other back is Whole.)
-- Assumes nothing.
use mathlib.Core.Path.{◌≡◌, refl, sym, ap, ◌∙◌}
use Prim.Native.Nat.{◌%◌}
use native.Mathlib.Omega.{arith}
use Rattle.area_parts.specs.Parts.{recent_in}
use Rattle.numbers.proofs.Numbers.{bytes_between, number_fits, numbers_fit}
use Rattle.rooms.specs.Rooms.{between}
use Rattle.thirteen_area.proofs.Whole.{held, read_back}
use Rattle.thirteen_area.specs.Area.{cells_in, fixed_at, latest_at, cells_at, level_at, recent_at, thirteen_length, thirteen_area_of, state_in}
use Rattle.thirteen_area.specs.Laws.{AreasTell, HeldFits, StatesTell, ErrorFirst}

pub areas_tell : AreasTell
areas_tell a b ba bb ia ib e = sym (held a ba ia) ∙ ap thirteen_area_of e ∙ held b bb ib

pub held_fits : HeldFits
unfolding state_in cells_in recent_in
held_fits a b =
    let fixed = number_fits (between a fixed_at latest_at) (bytes_between a b fixed_at latest_at) 2 in
    let latest = number_fits (between a latest_at cells_at) (bytes_between a b latest_at cells_at) in
    let level = number_fits (between a level_at recent_at) (bytes_between a b level_at recent_at) in
    let recent = number_fits (between a recent_at thirteen_length) (bytes_between a b recent_at thirteen_length) in
    record {
      error = number_fits a b 1 0;
      pack =
          record {
            fixed = record { DesignCapacity = fixed 0; DesignVoltage = fixed 2; StateOfHealth = fixed 4 };
            latest = record { voltage = latest 2 0; current = latest 2 2; temperature = latest 2 4; counter = latest 4 6 };
            cells = record { thirteen = refl; words = numbers_fit (between a cells_at level_at) (bytes_between a b cells_at level_at) 2 13 0 };
            level = record { charge = level 8 0; full = level 2 8 };
            recent =
                record {
                  sixty = refl;
                  totals = numbers_fit (between a recent_at thirteen_length) (bytes_between a b recent_at thirteen_length) 4 60 0;
                  count = omega (arith, recent 1 240);
                  begun = recent 2 241;
                  total = recent 4 243;
                };
          };
    }

pub states_tell : StatesTell
states_tell s t f g small less e = sym (read_back s f small) ∙ ap state_in e ∙ read_back t g less

pub error_first : ErrorFirst
unfolding thirteen_area_of
error_first s code small = let byte : code ≡ code % 256 = omega arith in rw (← byte)
