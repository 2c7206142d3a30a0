-- The theorems on the charger's areas. (That each gives the other back is Whole.)
-- Assumes nothing.
use mathlib.Core.Path.{sym, ap, ◌∙◌}
use Rattle.charger_area.proofs.Whole.{held, read_back}
use Rattle.charger_area.specs.Area.{voltage_at, inhibited_at, count_at, latest_at, charger_length, charger_area_of, charger_in}
use Rattle.charger_area.specs.Laws.{AreasTell, HeldFits, StatesTell}
use Rattle.numbers.proofs.Numbers.{bytes_between, number_fits}
use Rattle.rooms.specs.Rooms.{between}

pub areas_tell : AreasTell
areas_tell a b ba bb ia ib e = sym (held a ba ia) ∙ ap charger_area_of e ∙ held b bb ib

pub held_fits : HeldFits
unfolding charger_in
held_fits a b =
    let latest = number_fits (between a latest_at charger_length) (bytes_between a b latest_at charger_length) in
    record {
      current = number_fits (between a 0 voltage_at) (bytes_between a b 0 voltage_at) 2 0;
      voltage = number_fits (between a voltage_at inhibited_at) (bytes_between a b voltage_at inhibited_at) 2 0;
      count = number_fits a b 4 count_at;
      latest = record { voltage = latest 2 0; current = latest 2 2; temperature = latest 2 4; counter = latest 4 6 };
    }

pub states_tell : StatesTell
states_tell s t f g e = sym (read_back s f) ∙ ap charger_in e ∙ read_back t g
