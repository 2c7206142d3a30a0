-- Silence stops it; until then its current is the last request.
-- Assumes nothing.
use Prim.Native.Nat.{ℕ, ◌+◌, ◌≤◌, ◌<◌, min}
use mathlib.Core.Bool.{Bool, true, false, cond, not, ◌||◌, true≢false}
use mathlib.Core.List.{List, [], ◌∷◌}
use mathlib.Core.Path.{◌≡◌, refl, sym, ap, ap₂, ◌∙◌}
use native.Mathlib.Omega.{arith}
use borrow.Author.Tests.{le-leb, lt-leb, leb-true}
use lib.Dec.{eqb, leb}
use Rattle.charger_state.specs.Charger.{sound_of, alarm_inhibited, asks_for, current_of, sampled_of, sample_of}
use Rattle.charger_written.specs.Written.{charger_written}
use Rattle.charger_state.specs.declared.Asked.{Asked}
use Rattle.charger_state.specs.declared.Charger.{Charger}
use Rattle.pack.specs.declared.Answered.{Answered}
use Rattle.charger_laws.proofs.Cases.{call_cases, not_taken, write_cases, sample_cases, sample_goes_on}
use Rattle.charger_laws.proofs.Laws.{step_sound}
use Rattle.charger_laws.specs.Events.{Call, result, Event, sample, call, step, run, passes, time_of, takes, NoneTaken}
use Rattle.charger_laws.specs.Promises.{CountsSilence, SilenceStops, LastRequest, HoldsOn}
use Rattle.clock.specs.Sample.{elapsed_of}
use Rattle.pack.specs.declared.Sample.{Sample}

-- ---- the count

silent_write : (s : Charger) (command word : ℕ) → eqb command 0x14 ≡ false → eqb command 0x15 ≡ false → (charger_written s command word).count ≡ s.count
silent_write s command word e f =
    write_cases (λ t. t.count ≡ s.count) s command word refl refl (λ t. absurd (true≢false (sym t ∙ e))) (λ t. absurd (true≢false (sym t ∙ f))) refl refl

silent_call : (s : Charger) (c : Call) → takes 0x14 s (call c) ≡ false → takes 0x15 s (call c) ≡ false → (result s c).state.count ≡ s.count
silent_call s c e f =
    call_cases (λ t. t.count ≡ s.count) s c refl
    (λ command word checked q v.
    silent_write s command word (not_taken 0x14 s c command word checked q v e) (not_taken 0x15 s c command word checked q v f))

-- an accepted sample adds what elapsed, and that is its time
sampled_count : (s : Charger) (x : Sample) → sound_of s ≡ true → (step s (sample x)).count ≡ min 175000 (s.count + passes s (sample x))
unfolding sampled_of
sampled_count s x h =
    let g = sample_goes_on s x h in
    ap (λ (r : Answered Charger). r.state.count) g
    ∙ sym (ap (λ (r : Answered Charger). min 175000 (s.count + cond (eqb r.answer 0) (elapsed_of x.counter s.latest.counter) 0)) g)

pub counts_silence : CountsSilence
counts_silence s [] h n m = omega (arith, leb-true s.count 175000 h)
counts_silence s (sample x ∷ es) h (n, ns) (m, ms) =
    omega (arith, counts_silence (step s (sample x)) es (step_sound s (sample x) h) ns ms, sampled_count s x h)
counts_silence s (call c ∷ es) h (n, ns) (m, ms) =
    omega (arith, counts_silence (step s (call c)) es (step_sound s (call c) h) ns ms, silent_call s c n m)

-- ---- the current

last_true : (a b : Bool) (w : ℕ) → b ≡ true → cond (a || b) 0 w ≡ 0
last_true true b w h = refl
last_true false b w h = simp h

counted_out : (s : Charger) → 175000 ≤ s.count → current_of s ≡ 0
unfolding current_of
counted_out s h =
    last_true (not s.ChargingCurrent.taken || s.inhibited || alarm_inhibited s || not (asks_for s.ChargingVoltage)) (leb 175000 s.count) _
    (le-leb 175000 s.count h)

pub silence_stops : SilenceStops
silence_stops s es h n m l = counted_out (run s es) (omega (arith, counts_silence s es h n m, l))

pub last_request : LastRequest
unfolding current_of
last_request s t i a v l = simp (t, i, a, v, lt-leb 175000 s.count l)

-- ---- with nothing taken both requests and the inhibition stay

record Kept (s t : Charger) : Type 0 where
  current : t.ChargingCurrent ≡ s.ChargingCurrent
  voltage : t.ChargingVoltage ≡ s.ChargingVoltage
  inhibited : t.inhibited ≡ s.inhibited

same : (s : Charger) → Kept s s
same s = record { current = refl; voltage = refl; inhibited = refl }

none_written : (s : Charger) (command word : ℕ) → eqb command 0x12 ≡ false → eqb command 0x14 ≡ false → eqb command 0x15 ≡ false → eqb command 0x16 ≡ false
    → charger_written s command word ≡ s
unfolding charger_written
none_written s command word a b d e = simp (a, b, d, e)

none_taken : (s : Charger) (c : Call) → takes 0x12 s (call c) ≡ false → takes 0x14 s (call c) ≡ false → takes 0x15 s (call c) ≡ false → takes 0x16 s (call c) ≡ false
    → (result s c).state ≡ s
none_taken s c a b d f =
    call_cases (λ t. t ≡ s) s c refl
    (λ command word checked q v.
    none_written s command word (not_taken 0x12 s c command word checked q v a) (not_taken 0x14 s c command word checked q v b)
    (not_taken 0x15 s c command word checked q v d) (not_taken 0x16 s c command word checked q v f))

sampled_kept : (s : Charger) (x : Sample) → Kept s (step s (sample x))
unfolding sampled_of
sampled_kept s x = sample_cases (λ r. Kept s r.state) s x (λ u. same s) (λ v. record { current = refl; voltage = refl; inhibited = refl })

kept_run : (s : Charger) (es : List Event) → NoneTaken 0x12 s es → NoneTaken 0x14 s es → NoneTaken 0x15 s es → NoneTaken 0x16 s es → Kept s (run s es)
kept_run s [] a b d f = same s
kept_run s (e ∷ es) (a, as') (b, bs) (d, ds) (f, fs) =
    let l = kept_run (step s e) es as' bs ds fs in
    let k = one e a b d f in
    record { current = l.current ∙ k.current; voltage = l.voltage ∙ k.voltage; inhibited = l.inhibited ∙ k.inhibited }
  where
    one : (e : Event) → takes 0x12 s e ≡ false → takes 0x14 s e ≡ false → takes 0x15 s e ≡ false → takes 0x16 s e ≡ false → Kept s (step s e)
    one (sample x) a b d f = sampled_kept s x
    one (call c) a b d f =
        let e = none_taken s c a b d f in
        record { current = ap (λ (t : Charger). t.ChargingCurrent) e; voltage = ap (λ (t : Charger). t.ChargingVoltage) e; inhibited = ap (λ (t : Charger). t.inhibited) e }

-- two counts below the mark
uncounted : (s t : Charger) → Kept s t → s.count < 175000 → t.count < 175000 → current_of t ≡ current_of s
unfolding current_of
uncounted s t k l m = simp (k.current, k.voltage, k.inhibited, lt-leb 175000 s.count l, lt-leb 175000 t.count m)

pub holds_on : HoldsOn
holds_on s es h a b d f l =
    uncounted s (run s es) (kept_run s es a b d f) (omega (arith, l)) (omega (arith, counts_silence s es h b d, l))
