-- An alarm stops it, and only both requests bring it back.
-- Assumes nothing.
use Prim.Native.Nat.{ℕ, ◌≤◌, ◌<◌}
use mathlib.Core.Bool.{Bool, true, false, cond, not, ◌||◌, true≢false}
use mathlib.Core.List.{List, [], ◌∷◌}
use mathlib.Core.Logic.{◌⊎◌, inl, inr}
use mathlib.Core.Path.{◌≡◌, refl, sym, ap, ap₂, ◌∙◌}
use native.Mathlib.Omega.{arith}
use borrow.Author.Tests.{ne_eqb}
use Rattle.charger.proofs.Answers.{by-outcome}
use Rattle.charger_state.specs.Charger.{sound_of, alarm_inhibited, asks_for, silent, current_of, sampled_of}
use Rattle.charger.specs.Commands.{charger_kind}
use Rattle.charger_written.specs.Written.{taken_as, ends_charge, charger_written}
use Rattle.charger_state.specs.declared.Asked.{Asked}
use Rattle.charger_state.specs.declared.Charger.{Charger}
use Rattle.commands.specs.declared.Transacted.{Transacted}
use Rattle.charger_laws.proofs.Cases.{call_cases, not_taken, write_cases, sample_cases}
use Rattle.charger_laws.proofs.Laws.{written_sound}
use Rattle.charger_laws.proofs.Silence.{last_request}
use Rattle.charger_laws.specs.Events.{Call, result, Writes, Event, sample, call, step, run, takes, NoneTaken}
use Rattle.charger_laws.specs.Promises.{AlarmStops, OnlyBoth, BothBringBack}
use Rattle.commands.specs.declared.Kind.TheVariants.{WriteOnly}
use Rattle.frame.specs.declared.Request.TheVariants.{Write}
use Rattle.frame_laws.proofs.Requests.{write_is}

-- ---- a write that is taken

pub write_taken : (s : Charger) (c : Call) (command word : ℕ) → sound_of s ≡ true → 3 ≤ c.room → charger_kind command ≡ WriteOnly → Writes c command word
    → (result s c).state ≡ charger_written s command word
write_taken s c command word h l k (r, (checked, b)) =
    ap (λ (t : Transacted Charger). t.state)
    (by-outcome s c.read c.bytes c.room (Write command word checked) h l ((write_is 0x12 c.read c.bytes command word checked).1 (r, b))) ∙ rw k

-- ---- one of the reasons for no current

or_right : (a b : Bool) → b ≡ true → a || b ≡ true
or_right true b h = refl
or_right false b h = h

or_left : (a b : Bool) → a ≡ true → a || b ≡ true
or_left a b h = simp h

-- a request that is awaited, or of which none was taken
abbrev pub Lacks : Asked → Type 0
Lacks a = (a.awaited ≡ true) ⊎ (a.taken ≡ false)

third : (a b c d e : Bool) (w : ℕ) → c ≡ true → cond (a || b || c || d || e) 0 w ≡ 0
third true b c d e w h = refl
third false true c d e w h = refl
third false false c d e w h = simp h

fourth : (a b c d e : Bool) (w : ℕ) → d ≡ true → cond (a || b || c || d || e) 0 w ≡ 0
fourth true b c d e w h = refl
fourth false true c d e w h = refl
fourth false false true d e w h = refl
fourth false false false d e w h = simp h

pub no_current : (s : Charger) → Lacks s.ChargingCurrent → current_of s ≡ 0
unfolding current_of
no_current s (inl h) =
    third (not s.ChargingCurrent.taken) s.inhibited (alarm_inhibited s) (not (asks_for s.ChargingVoltage)) (silent s) _ (or_left _ s.ChargingVoltage.awaited h)
no_current s (inr h) = simp h

pub no_voltage : (s : Charger) → Lacks s.ChargingVoltage → current_of s ≡ 0
unfolding current_of
no_voltage s (inl h) =
    third (not s.ChargingCurrent.taken) s.inhibited (alarm_inhibited s) (not (asks_for s.ChargingVoltage)) (silent s) _ (or_right s.ChargingCurrent.awaited _ h)
no_voltage s (inr h) =
    fourth (not s.ChargingCurrent.taken) s.inhibited (alarm_inhibited s) (not (asks_for s.ChargingVoltage)) (silent s) _ (simp h)

-- ---- an alarm

pub alarm_stops : AlarmStops
unfolding charger_kind charger_written
alarm_stops s c word h l w ends =
    let o = write_taken s c 0x16 word h l refl w in
    let i : (result s c).state.ChargingCurrent.awaited ≡ true = ap (λ (t : Charger). t.ChargingCurrent.awaited) o ∙ or_right s.ChargingCurrent.awaited (ends_charge word) ends in
    let v : (result s c).state.ChargingVoltage.awaited ≡ true = ap (λ (t : Charger). t.ChargingVoltage.awaited) o ∙ or_right s.ChargingVoltage.awaited (ends_charge word) ends in
    (i, v, no_current (result s c).state (inl i))

-- ---- only both requests

still_lacks : (a : Asked) (again : Bool) → Lacks a → (a.awaited || again ≡ true) ⊎ (a.taken ≡ false)
still_lacks a again (inl h) = inl (or_left a.awaited again h)
still_lacks a again (inr h) = inr h

current_step : (s : Charger) (e : Event) → takes 0x14 s e ≡ false → Lacks s.ChargingCurrent → Lacks (step s e).ChargingCurrent
unfolding sampled_of
current_step s (sample x) n h = sample_cases (λ r. Lacks r.state.ChargingCurrent) s x (λ u. h) (λ v. h)
current_step s (call c) n h =
    call_cases (λ t. Lacks t.ChargingCurrent) s c h
    (λ command word checked q v.
    write_cases (λ t. Lacks t.ChargingCurrent) s command word (inr refl) h
    (λ t. absurd (true≢false (sym t ∙ not_taken 0x14 s c command word checked q v n)))
    (λ t. h) (still_lacks s.ChargingCurrent (ends_charge word) h) h)

voltage_step : (s : Charger) (e : Event) → takes 0x15 s e ≡ false → Lacks s.ChargingVoltage → Lacks (step s e).ChargingVoltage
unfolding sampled_of
voltage_step s (sample x) n h = sample_cases (λ r. Lacks r.state.ChargingVoltage) s x (λ u. h) (λ v. h)
voltage_step s (call c) n h =
    call_cases (λ t. Lacks t.ChargingVoltage) s c h
    (λ command word checked q v.
    write_cases (λ t. Lacks t.ChargingVoltage) s command word (inr refl) h
    (λ t. h)
    (λ t. absurd (true≢false (sym t ∙ not_taken 0x15 s c command word checked q v n)))
    (still_lacks s.ChargingVoltage (ends_charge word) h) h)

-- what one event keeps while a command isn't taken, all do
stays : (P : Charger → Type 0) (k : ℕ) → ((s : Charger) (e : Event) → takes k s e ≡ false → P s → P (step s e))
    → (s : Charger) (es : List Event) → NoneTaken k s es → P s → P (run s es)
stays P k f s [] n h = h
stays P k f s (e ∷ es) (n, ns) h = stays P k f (step s e) es ns (f s e n h)

pub only_both : OnlyBoth
only_both s es c v (inl n) = no_current (run s es) (stays (λ t. Lacks t.ChargingCurrent) 0x14 current_step s es n (inl c))
only_both s es c v (inr n) = no_voltage (run s es) (stays (λ t. Lacks t.ChargingVoltage) 0x15 voltage_step s es n (inl v))

-- ---- both bring it back

-- both requests as taken, whatever stood there
pub both_taken : (s : Charger) (current voltage count : ℕ) → s.inhibited ≡ false → (voltage ≡ 0 → ⊥) → count < 175000
    → s.ChargingCurrent ≡ taken_as current → s.ChargingVoltage ≡ taken_as voltage → s.count ≡ count → current_of s ≡ current
both_taken s current voltage count i z l c v n =
    last_request s (ap (λ (a : Asked). a.taken) c) i (ap₂ (λ (a b : Asked). a.awaited || b.awaited) c v)
    (ap asks_for v ∙ simp (ne_eqb voltage 0 z)) (omega (arith, n, l))
    ∙ ap (λ (a : Asked). a.word) c

pub both_bring_back : BothBringBack
unfolding charger_kind charger_written
both_bring_back s c d current voltage h i l m z (inl (x, y)) =
    let first = write_taken s c 0x14 current h l refl x in
    let t = charger_written s 0x14 current in
    let second = ap (λ (u : Charger). (result u d).state) first ∙ write_taken t d 0x15 voltage (written_sound s 0x14 current h) m refl y in
    ap current_of second ∙ both_taken (charger_written t 0x15 voltage) current voltage 0 i z (omega arith) refl refl refl
both_bring_back s c d current voltage h i l m z (inr (x, y)) =
    let first = write_taken s c 0x15 voltage h l refl x in
    let t = charger_written s 0x15 voltage in
    let second = ap (λ (u : Charger). (result u d).state) first ∙ write_taken t d 0x14 current (written_sound s 0x15 voltage h) m refl y in
    ap current_of second ∙ both_taken (charger_written t 0x14 current) current voltage 0 i z (omega arith) refl refl refl
