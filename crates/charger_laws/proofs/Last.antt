-- The last ChargingCurrent taken is the one that is kept.
-- Assumes nothing.
use Prim.Native.Nat.{ℕ}
use mathlib.Core.Bool.{Bool, true, false, cond, ◌&&◌, ◌||◌, true≢false}
use mathlib.Core.List.{List, [], ◌∷◌}
use mathlib.Core.Path.{◌≡◌, refl, sym, ap, ◌∙◌}
use lib.Dec.{eqb}
use Rattle.charger_state.specs.Charger.{power_on, sampled_of}
use Rattle.charger.specs.Commands.{charger_kind}
use Rattle.charger.specs.Transact.{asked}
use Rattle.charger_written.specs.Written.{zeroed_if, mode_written, charger_written}
use Rattle.charger_state.specs.declared.Charger.{Charger}
use Rattle.charger_laws.proofs.Alarms.{write_taken}
use Rattle.charger_laws.proofs.Cases.{call_cases, not_taken, sample_cases}
use Rattle.charger_laws.specs.Events.{Call, answer, Event, sample, call, step, run, takes, resetting, resets, NoReset, NoneTaken}
use Rattle.charger_laws.specs.Promises.{LastTaken}
use Rattle.commands.specs.Answers.{served}
use Rattle.frame.specs.declared.Request.{Request}
use Rattle.frame.specs.declared.Request.TheVariants.{Write}
use Rattle.rooms.proofs.Choice.{chosen}
use Rattle.written.specs.Written.{bit_set}

-- the request for current is the same, awaited or not
abbrev Same : Charger → Charger → Type 0
Same s t = (t.ChargingCurrent.taken ≡ s.ChargingCurrent.taken) × (t.ChargingCurrent.word ≡ s.ChargingCurrent.word)

-- by a ChargerMode that resets nothing
mode_keeps : (s : Charger) (word : ℕ) → bit_set 2 word || bit_set 3 word ≡ false → Same s (mode_written s word)
unfolding mode_written
mode_keeps s word = go (bit_set 2 word) (bit_set 3 word)
  where
    go : (por zero : Bool) → por || zero ≡ false
        → Same s (cond por (power_on s.count s.latest) (record { ChargingCurrent = zeroed_if zero s.ChargingCurrent; ChargingVoltage = zeroed_if zero s.ChargingVoltage; inhibited = bit_set 0 word; count = s.count; latest = s.latest }))
    go true zero e = absurd (true≢false e)
    go false true e = absurd (true≢false e)
    go false false e = (refl, refl)

write_keeps : (s : Charger) (command word : ℕ) → eqb command 0x14 ≡ false → (eqb command 0x12 && (bit_set 2 word || bit_set 3 word)) ≡ false → Same s (charger_written s command word)
unfolding charger_written
write_keeps s command word n r =
    chosen (Same s) (eqb command 0x12) (λ e. mode_keeps s word (sym (ap (λ (b : Bool). b && (bit_set 2 word || bit_set 3 word)) e) ∙ r))
    (λ e. chosen (Same s) (eqb command 0x14) (λ f. absurd (true≢false (sym f ∙ n)))
    (λ f. chosen (Same s) (eqb command 0x15) (λ g. (refl, refl)) (λ g. chosen (Same s) (eqb command 0x16) (λ i. (refl, refl)) (λ i. (refl, refl)))))

step_keeps : (s : Charger) (e : Event) → takes 0x14 s e ≡ false → resets s e ≡ false → Same s (step s e)
unfolding sampled_of
step_keeps s (sample x) n r = sample_cases (λ o. Same s o.state) s x (λ u. (refl, refl)) (λ v. (refl, refl))
step_keeps s (call c) n r =
    call_cases (Same s) s c (refl, refl)
    (λ command word checked q v.
    write_keeps s command word (not_taken 0x14 s c command word checked q v n)
    (sym (ap (λ (b : Bool). b && resetting (asked c.read c.bytes)) v ∙ ap (λ (d : Request). resetting d) q) ∙ r))

run_keeps : (s : Charger) (es : List Event) → NoneTaken 0x14 s es → NoReset s es → Same s (run s es)
run_keeps s [] n r = (refl, refl)
run_keeps s (e ∷ es) (n, ns) (r, rs) =
    let k = step_keeps s e n r in
    let l = run_keeps (step s e) es ns rs in
    (l.0 ∙ k.0, l.1 ∙ k.1)

pub last_taken : LastTaken
unfolding charger_kind charger_written
last_taken s c word es h l w n r =
    let o = write_taken s c 0x14 word h l refl w in
    let k = run_keeps (step s (call c)) es n r in
    (k.0 ∙ ap (λ (t : Charger). t.ChargingCurrent.taken) o, k.1 ∙ ap (λ (t : Charger). t.ChargingCurrent.word) o)
