-- What a call stores is enough: the theorems on calls.
-- Assumes nothing.
use mathlib.Core.Bool.{Bool, true, false, not, ◌&&◌, true≢false}
use mathlib.Core.List.{List}
use mathlib.Core.Path.{◌≡◌, refl, sym, ap, ◌∙◌}
use Prim.Native.Nat.{ℕ}
use borrow.Author.Tests.{eq-eqb}
use lib.Dec.{eqb}
use lib.ListN.{length}
use Rattle.charger.proofs.Answers.{read_stays}
use Rattle.charger_state.specs.Charger.{sound_of, sample_of}
use Rattle.charger.specs.Transact.{charger_side, charger_after, asked, transact_answer, transact_of}
use Rattle.charger_state.specs.declared.Charger.{Charger}
use Rattle.pack.specs.declared.Answered.{Answered}
use Rattle.charger_area.proofs.Whole.{held}
use Rattle.charger_area.specs.Area.{charger_area_of, charger_in}
use Rattle.charger_calls.specs.Calls.{area_after, sample_area, transact_area}
use Rattle.charger_calls.specs.Laws.{SampleHolds, TransactHolds}
use Rattle.commands.proofs.Answers.{none_served}
use Rattle.commands.specs.Answers.{Side, side_answer}
use Rattle.frame.specs.declared.Request.{Request}
use Rattle.frame.specs.declared.Request.TheVariants.{Refused, Read, Write}
use Rattle.rooms.proofs.Choice.{chosen}

pub sample_holds : SampleHolds
unfolding sample_area sample_of
sample_holds a x b is =
    rw is
    (chosen (λ (r : Answered Charger). area_after a (eqb r.answer 0) r.state ≡ charger_area_of r.state) (not (sound_of (charger_in a))) (λ e. sym (held a b is)) (λ e. refl))

-- a write that isn't answered 0 changes nothing
write_stays : (d : Side) (s : Charger) (q : Request) (room : ℕ) → (side_answer d q room ≡ 0 → ⊥) → charger_after s q (side_answer d q room) ≡ s
write_stays d s (Refused n) room h = refl
write_stays d s (Read command) room h = refl
write_stays d s (Write command word checked) room h = rw (none_served d command word checked room h)

stays : (s : Charger) (read : Bool) (bytes : List ℕ) (room : ℕ) → (eqb (transact_answer s read bytes room) 0 && not read) ≡ false
    → charger_after s (asked read bytes) (transact_answer s read bytes room) ≡ s
unfolding transact_answer
stays s true bytes room e = read_stays s bytes (side_answer (charger_side s) (asked true bytes) room)
stays s false bytes room e =
    write_stays (charger_side s) s (asked false bytes) room (λ z. true≢false (sym (ap (λ (t : Bool). t && true) (eq-eqb _ _ z)) ∙ e))

pub transact_holds : TransactHolds
unfolding transact_area transact_of
transact_holds a read bytes room b is =
    let s = charger_in a in
    let n = transact_answer s read bytes (length room) in
    let after = charger_after s (asked read bytes) n in
    rw is
    (chosen (λ (l : List ℕ). l ≡ charger_area_of after) (eqb n 0 && not read) (λ e. refl)
    (λ e. sym (held a b is) ∙ ap charger_area_of (sym (stays s read bytes (length room) e))))
