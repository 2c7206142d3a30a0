-- The calls on a charger's area: what a load tells, and each call's numbers put together.
-- Assumes nothing.
use mathlib.Core.Bool.{Bool, true, false, not, ◌&&◌}
use mathlib.Core.List.{List}
use mathlib.Core.Path.{◌≡◌, refl, sym, ap, ◌∙◌}
use Prim.Native.Nat.{ℕ, ◌≤◌}
use native.Mathlib.Omega.{arith}
use lib.Dec.{eqb}
use lib.ListN.{length}
use Rattle.charger_state.specs.Charger.{sample_of}
use Rattle.charger.specs.Transact.{charger_side, asked, transact_answer, transact_of, reply_room}
use Rattle.charger_state.specs.declared.Charger.{Charger}
use Rattle.pack.specs.declared.Answered.{Answered}
use Rattle.commands.specs.declared.Transacted.{Transacted}
use Rattle.charger_area.specs.Area.{charger_in, is_charger_area, loaded_of}
use Rattle.commands.proofs.Answers.{reply_most}
use Rattle.charger_calls.specs.Calls.{area_after, sample_number, sample_area, transact_number, transact_area, transact_room}
use Rattle.pack.specs.declared.Sample.{Sample}
use Rattle.rooms.proofs.Choice.{chosen}
use Rattle.packed.specs.Packed.{packed}

-- ---- loaded

pub no_area : (a : List ℕ) {l : Answered Charger} → l ≡ loaded_of a → (l.answer ≡ 0 → ⊥) → is_charger_area a ≡ false
unfolding loaded_of
no_area a e h =
    chosen (λ (m : Answered Charger). (m.answer ≡ 0 → ⊥) → is_charger_area a ≡ false) (is_charger_area a) (λ f k. absurd (k refl)) (λ f k. f)
    (λ z. h (ap (λ (m : Answered Charger). m.answer) e ∙ z))

pub an_area : (a : List ℕ) {l : Answered Charger} → l ≡ loaded_of a → l.answer ≡ 0 → (is_charger_area a ≡ true) × (l.state ≡ charger_in a)
unfolding loaded_of
an_area a e z =
    let t =
    chosen (λ (m : Answered Charger). m.answer ≡ 0 → (is_charger_area a ≡ true) × (m.state ≡ charger_in a)) (is_charger_area a) (λ f k. (f, refl))
    (λ f k. absurd (omega (arith, k))) (sym (ap (λ (m : Answered Charger). m.answer) e) ∙ z) in
    (t.0, ap (λ (m : Answered Charger). m.state) e ∙ t.1)

-- ---- samples

module _ (a : List ℕ) (x : Sample) {l : Answered Charger} (loaded : l ≡ loaded_of a) where
  pub sample-none : (l.answer ≡ 0 → ⊥) → (1 ≡ sample_number a x) × (a ≡ sample_area a x)
  unfolding sample_number sample_area
  sample-none h = let none = no_area a loaded h in (rw none, rw none)

  pub sample-done : {out : Answered Charger} {r : ℕ} {a' : List ℕ} → l.answer ≡ 0 → out ≡ sample_of l.state x → r ≡ out.answer
      → a' ≡ area_after a (eqb out.answer 0) out.state → (r ≡ sample_number a x) × (a' ≡ sample_area a x)
  unfolding sample_number sample_area
  sample-done z eo er ea =
      let t = an_area a loaded z in
      let o = eo ∙ ap (λ (s : Charger). sample_of s x) t.1 in (
        rw t.0 (er ∙ ap (λ (q : Answered Charger). q.answer) o),
        rw t.0 (ea ∙ ap (λ (q : Answered Charger). area_after a (eqb q.answer 0) q.state) o),
      )

-- ---- transactions

pub transact_most : (s : Charger) (read : Bool) (bytes : List ℕ) (room : ℕ) {out : Transacted Charger} → out ≡ transact_of s read bytes room → out.length ≤ 3
unfolding transact_of
transact_most s read bytes room eo = rw eo (reply_most (charger_side s) 2 (omega arith) (λ command. omega arith) bytes (asked read bytes) (transact_answer s read bytes room))

module _ (a : List ℕ) (read : Bool) (bytes room : List ℕ) {l : Answered Charger} (loaded : l ≡ loaded_of a) where
  pub transact-none : (l.answer ≡ 0 → ⊥)
      → (1 ≡ transact_number a read bytes room) × ((a ≡ transact_area a read bytes room) × (room ≡ transact_room a read bytes room))
  unfolding transact_number transact_area transact_room
  transact-none h = let none = no_area a loaded h in (rw none, (rw none, rw none))

  pub transact-done : {out : Transacted Charger} {r : ℕ} {a' room' : List ℕ} → l.answer ≡ 0
      → out ≡ transact_of l.state read bytes (length room)
      → room' ≡ reply_room l.state read bytes room
      → a' ≡ area_after a (eqb out.answer 0 && not read) out.state
      → r ≡ packed out.answer out.length
      → (r ≡ transact_number a read bytes room) × ((a' ≡ transact_area a read bytes room) × (room' ≡ transact_room a read bytes room))
  unfolding transact_number transact_area transact_room
  transact-done z eo em ea er =
      let t = an_area a loaded z in
      let o = eo ∙ ap (λ (s : Charger). transact_of s read bytes (length room)) t.1 in (
        rw t.0 (er ∙ ap (λ (q : Transacted Charger). packed q.answer q.length) o),
        (
          rw t.0 (ea ∙ ap (λ (q : Transacted Charger). area_after a (eqb q.answer 0 && not read) q.state) o),
          rw t.0 (em ∙ ap (λ (s : Charger). reply_room s read bytes room) t.1),
        ),
      )
