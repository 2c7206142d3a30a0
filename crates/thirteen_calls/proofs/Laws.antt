-- What a call stores is enough: the theorems on calls.
-- Assumes nothing.
use mathlib.Core.Bool.{true, not, ◌&&◌, and-eq-true_iff, true≢false}
use mathlib.Core.List.{List}
use mathlib.Core.Path.{◌≡◌, refl, sym, ap, ◌∙◌}
use Prim.Native.Nat.{ℕ, zero, suc}
use native.Mathlib.Omega.{arith}
use borrow.Author.Tests.{lt-leb}
use lib.Dec.{ltb, leb}
use lib.ListN.{length, set}
use Rattle.commands.proofs.Answers.{code_most}
use Rattle.commands.specs.Answers.{code_after}
use Rattle.rooms.proofs.Choice.{chosen}
use Rattle.thirteen.specs.Transact.{transact_answer, transact_of}
use Rattle.thirteen_area.proofs.Laws.{held_fits, error_first}
use Rattle.thirteen_area.proofs.Whole.{held}
use Rattle.thirteen_area.specs.Area.{thirteen_area_of, state_in}
use Rattle.thirteen_calls.specs.Calls.{area_after, sample_area, transact_area}
use Rattle.thirteen_calls.specs.Laws.{SampleHolds, TransactHolds}
use Rattle.thirteen_pack.specs.Sample.{sample_of}
use Rattle.thirteen_pack.specs.Sound.{sound_of}
use Rattle.pack.specs.declared.Answered.{Answered}
use Rattle.thirteen_pack.specs.declared.ThirteenState.{ThirteenState}

pub sample_holds : SampleHolds
unfolding sample_area sample_of
sample_holds a x cells b is =
    rw is
    (chosen (λ (r : Answered ThirteenState). area_after a r.answer r.state ≡ thirteen_area_of r.state) (not (sound_of (state_in a)))
    (λ e. sym (held a b is)) (λ e. refl))

-- 1 to 3 leave the error code as it was
code_stays : (n before : ℕ) → (ltb 0 n && leb n 3) ≡ true → code_after n before ≡ before
unfolding code_after
code_stays zero before e = absurd (true≢false (sym e))
code_stays (suc zero) before e = refl
code_stays (suc (suc zero)) before e = refl
code_stays (suc (suc (suc zero))) before e = refl
code_stays (suc (suc (suc (suc n)))) before e =
    let m = suc (suc (suc (suc n))) in
    absurd (true≢false (sym ((and-eq-true_iff (ltb 0 m) (leb m 3)).0 e).1 ∙ lt-leb m 3 (omega arith)))

pub transact_holds : TransactHolds
unfolding transact_area transact_of
transact_holds a read bytes room b is =
    let s = state_in a in
    let n = transact_answer s read bytes (length room) in
    let left : ℕ → ThirteenState = λ code. record { error = code; pack = s.pack } in
    let code = code_after n s.error in
    rw is
    (chosen (λ (l : List ℕ). l ≡ thirteen_area_of (left code)) (ltb 0 n && leb n 3)
    (λ e. sym (held a b is) ∙ ap (λ (k : ℕ). thirteen_area_of (left k)) (sym (code_stays n s.error e)))
    (λ e. ap (λ (l : List ℕ). set l 0 code) (sym (held a b is)) ∙ error_first s code (omega (arith, code_most 255 n s.error (omega arith) (omega (arith, (held_fits a b).error))))))
