-- The theorems on areas. (That each gives the other back is area's Whole.)
-- Assumes nothing.
use mathlib.Core.Path.{refl, sym, ap, ◌∙◌}
use mathlib.Core.Bool.{true, false}
use mathlib.Core.List.{◌++◌}
use Prim.Native.Nat.{◌≤◌}
use native.Mathlib.Omega.{arith}
use borrow.Author.Tests.{eq-eqb, le-leb}
use Rattle.rooms.specs.Rooms.{between}
use Rattle.area.specs.Area.{settings_at, host_at, latest_at, tank_at, timers_at, recent_at, area_length, area_of, state_in}
use Rattle.area_parts.specs.Parts.{settings_bytes, host_bytes, latest_bytes, tank_bytes, timers_bytes, recent_bytes, recent_in}
use Rattle.numbers.proofs.Numbers.{bytes_between, number_fits, numbers_fit}
use Rattle.area.proofs.Whole.{held, read_back}
use Rattle.area_laws.specs.Laws.{AreasTell, HeldInArea, StatesTell, SoundGoesIn, ErrorFirst, minute_anew, AreaAnew, SoundAnew, counts_anew, AreaWithoutCounts, SoundWithoutCounts, AreaAs, SoundAs}
use Rattle.pack.proofs.Soundness.{count_of_sound, parts, pack_of_sound, pack-sound, code_of_sound, sound_state, settings_facts, toward-sound, run-sound}
use Rattle.pack.proofs.Choice.{sound_as}
use Rattle.recent.proofs.Soundness.{zero_sound}
use Rattle.pack.specs.Sound.{tank_sound}
use Rattle.pack.specs.declared.Pack.{Pack}

pub areas_tell : AreasTell
areas_tell a b ba bb ia ib e = sym (held a ba ia) ∙ ap area_of e ∙ held b bb ib

pub held_in_area : HeldInArea
unfolding state_in recent_in
held_in_area a b =
    let settings = number_fits (between a settings_at host_at) (bytes_between a b settings_at host_at) 2 in
    let host = number_fits (between a host_at latest_at) (bytes_between a b host_at latest_at) 2 in
    let latest = number_fits (between a latest_at tank_at) (bytes_between a b latest_at tank_at) in
    let tank = number_fits (between a tank_at timers_at) (bytes_between a b tank_at timers_at) in
    let timers = number_fits (between a timers_at recent_at) (bytes_between a b timers_at recent_at) 4 in
    let recent = number_fits (between a recent_at area_length) (bytes_between a b recent_at area_length) in
    record {
      fits =
          record {
            error = number_fits a b 1 0;
            pack =
                record {
                  settings =
                      record {
                        DesignCapacity = settings 0;
                        DesignVoltage = settings 2;
                        MaxError = settings 4;
                        ManufactureDate = settings 6;
                        SerialNumber = settings 8;
                        ChargingCurrent = settings 10;
                        ChargingVoltage = settings 12;
                        TemperatureLimit = settings 14;
                        DischargeLimit = settings 16;
                      };
                  host = record { ManufacturerAccess = host 0; RemainingCapacityAlarm = host 2; RemainingTimeAlarm = host 4; AtRate = host 6 };
                  latest = record { voltage = latest 2 0; current = latest 2 2; temperature = latest 2 4; counter = latest 4 6 };
                  recent =
                      record {
                        sixty = refl;
                        totals = numbers_fit (between a recent_at area_length) (bytes_between a b recent_at area_length) 4 60 0;
                        count = omega (arith, recent 1 240);
                        begun = recent 2 241;
                        total = recent 4 243;
                      };
                  tank = record { charge = tank 8 0; full = tank 2 8; CycleCount = tank 2 10; toward = tank 8 13; drawn = tank 8 21 };
                  timers = record { hold = timers 0; alarm = timers 4; charger = timers 8 };
                };
          };
      count = omega (arith, recent 1 240);
    }

pub states_tell : StatesTell
states_tell s t f g e = sym (read_back s f.fits (omega (arith, f.count))) ∙ ap state_in e ∙ read_back t g.fits (omega (arith, g.count))

pub sound_goes_in : SoundGoesIn
sound_goes_in s room h n =
    let most : s.pack.recent.count ≤ 255 = omega (arith, count_of_sound s h) in rw (eq-eqb _ _ n, le-leb _ _ most)

pub error_first : ErrorFirst
unfolding area_of
error_first s t e =
    ap
    (λ (p : Pack). settings_bytes p.settings ++ host_bytes p.host ++ latest_bytes p.latest ++ tank_bytes p.tank ++ timers_bytes p.timers ++ recent_bytes p.recent)
    e

pub area_anew : AreaAnew
unfolding area_of recent_bytes
area_anew s = refl

pub sound_anew : SoundAnew
sound_anew s h =
    let f = parts s.pack (pack_of_sound s h) in
    sound_state (minute_anew s)
    (pack-sound (minute_anew s).pack (record { settings = f.settings; tank = f.tank; toward = f.toward; run = f.run; recent = zero_sound; timers = f.timers }))
    (code_of_sound s h)

pub area_without_counts : AreaWithoutCounts
unfolding area_of
area_without_counts s = refl

pub sound_without_counts : SoundWithoutCounts
unfolding tank_sound
sound_without_counts s h =
    let f = parts s.pack (pack_of_sound s h) in
    let design = (settings_facts s.pack.settings f.settings).design in
    sound_state (counts_anew s)
    (pack-sound (counts_anew s).pack
    (record {
      settings = f.settings;
      tank = f.tank;
      toward = toward-sound s.pack.settings.DesignCapacity 0 (omega (arith, design));
      run = run-sound _ (record { most = omega arith; none = λ e. refl });
      recent = f.recent;
      timers = f.timers;
    }))
    (code_of_sound s h)

pub area_as : AreaAs
unfolding area_of
area_as true s = refl
area_as false s = refl

pub sound_goes_on : SoundAs
sound_goes_on plain s h = sound_as plain s ∙ h
