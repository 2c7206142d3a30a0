-- The premises can be met, and the bound is sharp to the millisecond: runs from set-ups, computed.
-- Assumes nothing.
use Prim.Native.Nat.{ℕ, zero, suc, ◌+◌}
use mathlib.Core.Bool.{Bool, true, false, not, ◌&&◌, and-eq-true_iff, true≢false}
use mathlib.Core.List.{List, [], ◌∷◌, ◌++◌}
use mathlib.Core.Logic.{inl}
use mathlib.Core.Path.{◌≡◌, refl, sym, ap, ◌∙◌}
use native.Mathlib.Omega.{arith}
use borrow.Author.Tests.{eqb-true, leb-true, not-true}
use lib.Dec.{eqb, leb}
use lib.IntN.{ℤ, pos, negsuc}
use Rattle.alarms.specs.Alarms.{terminate_charge, charger_alarm}
use Rattle.broadcasts.specs.Broadcasts.{alarm_goes, charger_goes, alarms_of, charger_words_of}
use Rattle.bus.specs.Transact as bus
use Rattle.charger_state.specs.Charger as charger
use Rattle.charger.specs.Commands.{charger_kind}
use Rattle.charger.specs.Transact as side
use Rattle.charger_written.specs.Written.{mode_written, charger_written}
use Rattle.clock.specs.Broadcast.{sampled_of, sample_of}
use Rattle.clock.specs.Sample.{elapsed_of, moved_of}
use Rattle.commands.specs.Answers.{side_answer, code_after}
use Rattle.commands.specs.Commands.{kind_of}
use Rattle.frame.specs.Transactions.{request_of}
use Rattle.joined.specs.Joined.{Joint, Tick, Happening, tick, host, asks, pack_sample, events_of, happen, after_all, gap_of, Fair, AllFair, Throughout}
use Rattle.joined.specs.Promises.{Terminating, Gives, Charging, from_set_ups, StillOn, SharpTo30999, AfterAlarm, ReturnsFromAnAlarm}
use Rattle.pack.specs.Sound.{sound_of, pack_sound, settings_sound, tank_sound, toward_sound, run_sound, timers_sound, error_sound}
use Rattle.pack.specs.declared.Sample.{Sample}
use Rattle.runs.specs.Events.{accepted, time_of}
use Rattle.recent.specs.Recent.{recent_sound, totals_sound, average_of, sum_of}
use Rattle.registers.specs.Registers.{remaining_capacity}
use Rattle.seconds.specs.Seconds.{recent_after}
use Rattle.status.specs.Status.{status_bits}
use Rattle.tank.specs.Tank.{seen_of, tank_after}
use Rattle.start.specs.SetUp.{set_up_of, pack_of}
use Rattle.start.specs.declared.Setup.{Setup}
use Rattle.written.specs.Written.{host_written, timers_written, pack_written}

-- ---- the premises as tests

both : (a b : Bool) → a && b ≡ true → (a ≡ true) × (b ≡ true)
both a b h = (and-eq-true_iff a b).0 h

-- now and after each happening
abbrev always : (Joint → Bool) → Joint → List Happening → Bool
always p j [] = p j
always p j (h ∷ hs) = p j && always p (happen j h) hs

throughout : (p : Joint → Bool) (P : Joint → Type 0) → ((j : Joint) → p j ≡ true → P j) → (j : Joint) (hs : List Happening) → always p j hs ≡ true → Throughout P j hs
throughout p P f j [] e = f j e
throughout p P f j (h ∷ hs) e = let b = both _ _ e in (f j b.0, throughout p P f (happen j h) hs b.1)

abbrev fair : Joint → Happening → Bool
fair j (tick t) =
    accepted j.pack (pack_sample t) && (leb 3 t.reply && (eqb (elapsed_of t.charger.counter j.charger.latest.counter) (gap_of j t) && leb (gap_of j t) 1000))
fair j (host c) = true
fair j (asks c) = c.read

fairly : (j : Joint) (h : Happening) → fair j h ≡ true → Fair j h
fairly j (tick t) h =
    let a = both _ _ h in
    let b = both _ _ a.1 in
    let d = both _ _ b.1 in
    (a.0, leb-true _ _ b.0, eqb-true _ _ d.0, leb-true _ _ d.1)
fairly j (host c) h = tt
fairly j (asks c) h = inl h

abbrev all_fair : Joint → List Happening → Bool
all_fair j [] = true
all_fair j (h ∷ hs) = fair j h && all_fair (happen j h) hs

all_fairly : (j : Joint) (hs : List Happening) → all_fair j hs ≡ true → AllFair j hs
all_fairly j [] e = tt
all_fairly j (h ∷ hs) e = let b = both _ _ e in (fairly j h b.0, all_fairly (happen j h) hs b.1)

abbrev terminates : Joint → Bool
terminates j = terminate_charge j.pack.pack && not j.pack.pack.host.ChargerMode

terminating : (j : Joint) → terminates j ≡ true → Terminating j
terminating j h = let b = both _ _ h in (b.0, not-true _ b.1)

abbrev gives : Joint → Bool
gives j = not (eqb (charger.current_of j.charger) 0)

giving : (j : Joint) → gives j ≡ true → Gives j
giving j h z = true≢false (sym h ∙ ap (λ (n : ℕ). not (eqb n 0)) z)

abbrev charges : Joint → Bool
charges j = not (charger_alarm j.pack.pack) && not j.pack.pack.host.ChargerMode

charging : (j : Joint) → charges j ≡ true → Charging j
charging j h = let b = both _ _ h in (not-true _ b.0, not-true _ b.1)

-- ---- a run that stays on for 30,999 ms

-- a full pack
abbrev setup : Setup
setup =
    record {
      DesignCapacity = 1000;
      full = 1000;
      remaining = 1000;
      DesignVoltage = 10000;
      MaxError = 1;
      CycleCount = 0;
      ManufactureDate = 0;
      SerialNumber = 0;
      ChargingCurrent = 2000;
      ChargingVoltage = 12600;
      TemperatureLimit = 3300;
      DischargeLimit = 9000;
      plain = true;
    }

abbrev sample_at : ℤ → ℕ → Sample
sample_at current counter = record { voltage = 12000; current = current; temperature = 2900; counter = counter }

abbrev tick_at : ℤ → ℕ → Tick
tick_at current counter = record { pack = sample_at current counter; room = 16; charger = sample_at current counter; reply = 3; first = true }

-- the host asks for no alarms, for a minute
abbrev quiet : Happening
quiet = host (record { service = []; factory = []; read = false; bytes = 0x16 ∷ 0x03 ∷ 0x00 ∷ 0x20 ∷ []; room = 34 })

-- 30 s after set-up the words go and ask for 2,000 mA; then, before a millisecond has passed, current flows into the full pack
abbrev beginning : List Happening
beginning = quiet ∷ tick (tick_at (pos 0) 30000) ∷ quiet ∷ tick (tick_at (pos 100) 30000) ∷ []

abbrev start : Joint
start = after_all (from_set_ups setup (sample_at (pos 0) 0)) beginning

-- so many ticks a second apart
abbrev ticks : ℕ → ℕ → List Happening
ticks zero counter = []
ticks (suc n) counter = tick (tick_at (pos 100) (counter + 1000)) ∷ ticks n (counter + 1000)

-- 29,999 ms, and one second more
abbrev seconds : List Happening
seconds = ticks 29 30000 ++ tick (tick_at (pos 100) 59999) ∷ []

abbrev last : Tick
last = tick_at (pos 100) 60999

run_is_fair : all_fair start (seconds ++ tick last ∷ []) ≡ true
unfolding set_up_of pack_of sound_of pack_sound settings_sound tank_sound toward_sound run_sound timers_sound error_sound recent_sound totals_sound recent_after tank_after seen_of average_of sum_of remaining_capacity status_bits sample_of sampled_of moved_of alarm_goes charger_goes alarms_of charger_words_of bus.transact_of bus.transact_answer side_answer code_after request_of kind_of host_written timers_written pack_written charger.current_of charger.sampled_of charger.sample_of charger_kind mode_written charger_written side.transact_answer side.transact_of
run_is_fair = refl

run_terminates : always terminates start (seconds ++ tick last ∷ []) ≡ true
unfolding set_up_of pack_of sound_of pack_sound settings_sound tank_sound toward_sound run_sound timers_sound error_sound recent_sound totals_sound recent_after tank_after seen_of average_of sum_of remaining_capacity status_bits sample_of sampled_of moved_of alarm_goes charger_goes alarms_of charger_words_of bus.transact_of bus.transact_answer side_answer code_after request_of kind_of host_written timers_written pack_written charger.current_of charger.sampled_of charger.sample_of charger_kind mode_written charger_written side.transact_answer side.transact_of
run_terminates = refl

run_gives : always gives start seconds ≡ true
unfolding set_up_of pack_of sound_of pack_sound settings_sound tank_sound toward_sound run_sound timers_sound error_sound recent_sound totals_sound recent_after tank_after seen_of average_of sum_of remaining_capacity status_bits sample_of sampled_of moved_of alarm_goes charger_goes alarms_of charger_words_of bus.transact_of bus.transact_answer side_answer code_after request_of kind_of host_written timers_written pack_written charger.current_of charger.sampled_of charger.sample_of charger_kind mode_written charger_written side.transact_answer side.transact_of
run_gives = refl

takes_30999 : time_of start.pack (events_of (seconds ++ tick last ∷ [])) ≡ 30999
unfolding set_up_of pack_of sound_of pack_sound settings_sound tank_sound toward_sound run_sound timers_sound error_sound recent_sound totals_sound recent_after tank_after seen_of average_of sum_of remaining_capacity status_bits sample_of sampled_of moved_of alarm_goes charger_goes alarms_of charger_words_of bus.transact_of bus.transact_answer side_answer code_after request_of kind_of host_written timers_written pack_written charger.current_of charger.sampled_of charger.sample_of charger_kind mode_written charger_written side.transact_answer side.transact_of
takes_30999 = refl

set_up_served : (set_up_of setup (sample_at (pos 0) 0)).answer ≡ 0
unfolding set_up_of
set_up_served = refl

pub sharp_to_30999 : SharpTo30999
sharp_to_30999 =
    let run : StillOn start seconds last =
    record {
      fair = all_fairly start (seconds ++ tick last ∷ []) run_is_fair;
      lasts = throughout terminates Terminating terminating start (seconds ++ tick last ∷ []) run_terminates;
      on = throughout gives Gives giving start seconds run_gives;
    } in
    (setup, sample_at (pos 0) 0, beginning, seconds, last, set_up_served, run, takes_30999)

-- ---- after an alarm, the way back

-- current flows into the full pack, whose alarm stops the charger; from then on it is drawn
abbrev stopped : Joint
stopped = after_all (from_set_ups setup (sample_at (pos 0) 0)) (tick (tick_at (pos 100) 1000) ∷ tick (tick_at (negsuc 99) 2000) ∷ [])

abbrev drawn : ℕ → ℕ → List Happening
drawn zero counter = []
drawn (suc n) counter = tick (tick_at (negsuc 99) (counter + 1000)) ∷ drawn n (counter + 1000)

way_is_fair : all_fair stopped (drawn 30 2000) ≡ true
unfolding set_up_of pack_of sound_of pack_sound settings_sound tank_sound toward_sound run_sound timers_sound error_sound recent_sound totals_sound recent_after tank_after seen_of average_of sum_of remaining_capacity status_bits sample_of sampled_of moved_of alarm_goes charger_goes alarms_of charger_words_of bus.transact_of bus.transact_answer side_answer code_after request_of kind_of host_written timers_written pack_written charger.current_of charger.sampled_of charger.sample_of charger_kind mode_written charger_written side.transact_answer side.transact_of
way_is_fair = refl

way_charges : always charges stopped (drawn 30 2000) ≡ true
unfolding set_up_of pack_of sound_of pack_sound settings_sound tank_sound toward_sound run_sound timers_sound error_sound recent_sound totals_sound recent_after tank_after seen_of average_of sum_of remaining_capacity status_bits sample_of sampled_of moved_of alarm_goes charger_goes alarms_of charger_words_of bus.transact_of bus.transact_answer side_answer code_after request_of kind_of host_written timers_written pack_written charger.current_of charger.sampled_of charger.sample_of charger_kind mode_written charger_written side.transact_answer side.transact_of
way_charges = refl

way_is_long : leb 30000 (time_of stopped.pack (events_of (drawn 30 2000))) ≡ true
unfolding set_up_of pack_of sound_of pack_sound settings_sound tank_sound toward_sound run_sound timers_sound error_sound recent_sound totals_sound recent_after tank_after seen_of average_of sum_of remaining_capacity status_bits sample_of sampled_of moved_of alarm_goes charger_goes alarms_of charger_words_of bus.transact_of bus.transact_answer side_answer code_after request_of kind_of host_written timers_written pack_written charger.current_of charger.sampled_of charger.sample_of charger_kind mode_written charger_written side.transact_answer side.transact_of
way_is_long = refl

alarm_was_taken : charger.alarm_inhibited stopped.charger ≡ true
unfolding set_up_of pack_of sound_of pack_sound settings_sound tank_sound toward_sound run_sound timers_sound error_sound recent_sound totals_sound recent_after tank_after seen_of average_of sum_of remaining_capacity status_bits sample_of sampled_of moved_of alarm_goes charger_goes alarms_of charger_words_of bus.transact_of bus.transact_answer side_answer code_after request_of kind_of host_written timers_written pack_written charger.current_of charger.sampled_of charger.sample_of charger_kind mode_written charger_written side.transact_answer side.transact_of
alarm_was_taken = refl

not_inhibited : stopped.charger.inhibited ≡ false
unfolding set_up_of pack_of sound_of pack_sound settings_sound tank_sound toward_sound run_sound timers_sound error_sound recent_sound totals_sound recent_after tank_after seen_of average_of sum_of remaining_capacity status_bits sample_of sampled_of moved_of alarm_goes charger_goes alarms_of charger_words_of bus.transact_of bus.transact_answer side_answer code_after request_of kind_of host_written timers_written pack_written charger.current_of charger.sampled_of charger.sample_of charger_kind mode_written charger_written side.transact_answer side.transact_of
not_inhibited = refl

asks_for_volts : stopped.pack.pack.settings.ChargingVoltage ≡ 12600
unfolding set_up_of pack_of sound_of pack_sound settings_sound tank_sound toward_sound run_sound timers_sound error_sound recent_sound totals_sound recent_after tank_after seen_of average_of sum_of remaining_capacity status_bits sample_of sampled_of moved_of alarm_goes charger_goes alarms_of charger_words_of bus.transact_of bus.transact_answer side_answer code_after request_of kind_of host_written timers_written pack_written charger.current_of charger.sampled_of charger.sample_of charger_kind mode_written charger_written side.transact_answer side.transact_of
asks_for_volts = refl

pub returns_from_an_alarm : ReturnsFromAnAlarm
returns_from_an_alarm =
    let run : AfterAlarm stopped (drawn 30 2000) =
    record {
      alarm = alarm_was_taken;
      free = not_inhibited;
      voltage = λ z. omega (arith, z, asks_for_volts);
      fair = all_fairly stopped (drawn 30 2000) way_is_fair;
      lasts = throughout charges Charging charging stopped (drawn 30 2000) way_charges;
      time = leb-true 30000 _ way_is_long;
    } in
    (setup, sample_at (pos 0) 0, tick (tick_at (pos 100) 1000) ∷ tick (tick_at (negsuc 99) 2000) ∷ [], drawn 30 2000, set_up_served, run)
