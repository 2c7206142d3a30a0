-- Reads, refused calls and refused samples change nothing, over any events.
-- Assumes nothing.
use Prim.Native.Nat.{◌+◌}
use mathlib.Core.Bool.{true, not, cond, true≢false}
use mathlib.Core.Path.{◌≡◌, refl, sym, ap, ◌∙◌}
use native.Mathlib.Omega.{arith}
use lib.Dec.{eqb}
use Rattle.charger_state.specs.declared.Charger.{Charger}
use Rattle.charger_laws.proofs.Cases.{sample_cases}
use Rattle.charger_laws.proofs.Laws.{idle_keeps}
use Rattle.charger_laws.specs.Events.{answer, Event, sample, call, step, passes, adds_time, answer_to, reply_to, is_idle, charger_party}
use Rattle.charger_laws.specs.Promises.{ChatterIsIdle}
use Rattle.chatter.proofs.Chatter.{over_is_same}
use Rattle.chatter.proofs.Chatter as chatter
use Rattle.chatter.proofs.Idle.{either}
use Rattle.chatter.specs.Promises.{StepLaw, AddsSame}
use Rattle.clock.specs.Sample.{elapsed_of}
use Rattle.commands.specs.Answers.{served}

-- an idle event leaves all as it was, and takes no time
pub idle_event : (s : Charger) (e : Event) → is_idle s e ≡ true → (step s e ≡ s) × (passes s e ≡ 0)
idle_event s (sample x) i =
    sample_cases
    (λ r. not (eqb r.answer 0) ≡ true → (r.state ≡ s) × (cond (eqb r.answer 0) (elapsed_of x.counter s.latest.counter) 0 ≡ 0)) s x
    (λ u n. (refl, refl)) (λ v n. absurd (true≢false (sym n))) i
idle_event s (call c) i = (idle_keeps s c (either c.read (served (answer s c)) i), refl)

step_law : StepLaw charger_party
step_law =
    record {
      keeps = λ s t e h i. (idle_event s e i).0 ∙ h;
      gives = λ s t e h. (ap (λ (u : Charger). answer_to u e) h, ap (λ (u : Charger). reply_to u e) h);
      idle = λ s t e h. ap (λ (u : Charger). is_idle u e) h;
      leaves = λ s t e h. ap (λ (u : Charger). step u e) h;
    }

time_same : AddsSame charger_party adds_time
time_same =
    record {
      nothing = λ s e later i. omega (arith, (idle_event s e i).1);
      same = λ s t e later h. ap (λ (u : Charger). passes u e + later) h;
    }

pub chatter_is_idle : ChatterIsIdle
chatter_is_idle s es fs r =
    (chatter.chatter_is_idle charger_party step_law s s es fs r refl, over_is_same charger_party adds_time 0 step_law time_same s s es fs r refl)
