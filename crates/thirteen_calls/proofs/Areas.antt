-- The calls on a thirteen-cell pack's area: what a load tells, what a store leaves, and each call's numbers put together.
-- Assumes nothing.
use mathlib.Core.Bool.{Bool, true, false, not}
use mathlib.Core.List.{List}
use mathlib.Core.Path.{◌≡◌, refl, sym, ap, ◌∙◌}
use Prim.Native.Nat.{ℕ, ◌≤◌}
use native.Mathlib.Omega.{arith}
use borrow.Author.Tests.{eq-eqb, le-leb, not-false}
use lib.ListN.{length}
use Rattle.clock.specs.Sample.{elapsed_of}
use Rattle.commands.proofs.Answers.{reply_most}
use Rattle.pack.specs.Kept.{latest_of}
use Rattle.pack.specs.declared.Sample.{Sample}
use Rattle.packed.specs.Packed.{packed}
use Rattle.recent.proofs.Soundness.{recent_facts}
use Rattle.rooms.proofs.Choice.{chosen}
use Rattle.seconds.proofs.After.{after_sound}
use Rattle.start.specs.SetUp.{set_up_refused}
use Rattle.start.specs.declared.Setup.{Setup}
use Rattle.thirteen.specs.Transact.{thirteen_side, asked, transact_answer, transact_reply, transact_of, reply_room}
use Rattle.commands.specs.declared.Transacted.{Transacted}
use Rattle.thirteen_area.specs.Area.{cells_in, thirteen_length, thirteen_area_of, state_in, is_thirteen_area, loaded_of, stored_room}
use Rattle.pack.specs.declared.Answered.{Answered}
use Rattle.thirteen_calls.specs.Calls.{area_after, start_number, start_area, sample_number, sample_area, error_stored, transact_number, transact_area, transact_room}
use Rattle.thirteen_pack.proofs.Facts.{facts_of_sound}
use Rattle.thirteen_pack.specs.Sample.{sampled_of, sample_of}
use Rattle.thirteen_pack.specs.SetUp.{pack_of, set_up_of}
use Rattle.thirteen_pack.specs.Sound.{sound_of}
use Rattle.thirteen_pack.specs.declared.ThirteenState.{ThirteenState}
use Rattle.thirteen_words.proofs.Cells.{cells_length}

-- ---- loaded and stored

pub no_area : (a : List ℕ) {l : Answered ThirteenState} → l ≡ loaded_of a → (l.answer ≡ 0 → ⊥) → is_thirteen_area a ≡ false
unfolding loaded_of
no_area a e h =
    chosen (λ (m : Answered ThirteenState). (m.answer ≡ 0 → ⊥) → is_thirteen_area a ≡ false) (is_thirteen_area a) (λ f k. absurd (k refl)) (λ f k. f)
    (λ z. h (ap (λ (m : Answered ThirteenState). m.answer) e ∙ z))

pub an_area : (a : List ℕ) {l : Answered ThirteenState} → l ≡ loaded_of a → l.answer ≡ 0 → (is_thirteen_area a ≡ true) × (l.state ≡ state_in a)
unfolding loaded_of
an_area a e z =
    let t =
    chosen (λ (m : Answered ThirteenState). m.answer ≡ 0 → (is_thirteen_area a ≡ true) × (m.state ≡ state_in a)) (is_thirteen_area a) (λ f k. (f, refl))
    (λ f k. absurd (omega (arith, k))) (sym (ap (λ (m : Answered ThirteenState). m.answer) e) ∙ z) in
    (t.0, ap (λ (m : Answered ThirteenState). m.state) e ∙ t.1)

-- a state of at most 60 seconds goes into an area
pub stored : (s : ThirteenState) (room : List ℕ) → length room ≡ thirteen_length → s.pack.recent.count ≤ 60 → stored_room s room ≡ thirteen_area_of s
unfolding stored_room
stored s room n most = rw (eq-eqb _ _ n, le-leb s.pack.recent.count 255 (omega (arith, most)))

-- ---- set-up

pub start_most : (u : Setup) (health : ℕ) (first : Sample) (cells : List ℕ) → (set_up_of u health first cells).state.pack.recent.count ≤ 60
unfolding set_up_of pack_of
start_most u health first cells = chosen (λ (t : Answered ThirteenState). t.state.pack.recent.count ≤ 60) (set_up_refused u) (λ e. omega arith) (λ e. omega arith)

pub start_done : (a : List ℕ) {t u : Answered ThirteenState} {r : ℕ} {a' : List ℕ} → length a ≡ thirteen_length → t ≡ u → r ≡ t.answer
    → a' ≡ area_after a t.answer t.state → (r ≡ start_number a u) × (a' ≡ start_area a u)
start_done a size e er ea =
    let sized = eq-eqb _ _ size in (
      rw sized (er ∙ ap (λ (q : Answered ThirteenState). q.answer) e),
      rw sized (ea ∙ ap (λ (q : Answered ThirteenState). area_after a q.answer q.state) e),
    )

-- ---- samples

-- a sound state keeps at most 60 seconds after a sample too
served_count : (s : ThirteenState) (x : Sample) (cells : List ℕ) → sound_of s ≡ true → (sampled_of s.pack x cells).recent.count ≤ 60
unfolding sampled_of
served_count s x cells h =
    (recent_facts _ (after_sound s.pack.recent (latest_of x).current (elapsed_of x.counter s.pack.latest.counter) (facts_of_sound s h).recent)).most

pub sample_count : (s : ThirteenState) (x : Sample) (cells : List ℕ) → (sample_of s x cells).answer ≡ 0 → (sample_of s x cells).state.pack.recent.count ≤ 60
unfolding sample_of
sample_count s x cells =
    chosen (λ (r : Answered ThirteenState). r.answer ≡ 0 → r.state.pack.recent.count ≤ 60) (not (sound_of s)) (λ e z. absurd (omega (arith, z)))
    (λ e z. served_count s x cells (not-false _ e))

module _ (a : List ℕ) (x : Sample) (cells : List ℕ) {l : Answered ThirteenState} (loaded : l ≡ loaded_of a) where
  pub sample-none : (l.answer ≡ 0 → ⊥) → (1 ≡ sample_number a x cells) × (a ≡ sample_area a x cells)
  unfolding sample_number sample_area
  sample-none h = let none = no_area a loaded h in (rw none, rw none)

  pub sample-done : {out : Answered ThirteenState} {r : ℕ} {a' : List ℕ} → l.answer ≡ 0 → out ≡ sample_of l.state x cells → r ≡ out.answer
      → a' ≡ area_after a out.answer out.state → (r ≡ sample_number a x cells) × (a' ≡ sample_area a x cells)
  unfolding sample_number sample_area
  sample-done z eo er ea =
      let t = an_area a loaded z in
      let o = eo ∙ ap (λ (s : ThirteenState). sample_of s x cells) t.1 in (
        rw t.0 (er ∙ ap (λ (q : Answered ThirteenState). q.answer) o),
        rw t.0 (ea ∙ ap (λ (q : Answered ThirteenState). area_after a q.answer q.state) o),
      )

-- ---- transactions

-- a reply is at most the 26 bytes of all cells and a PEC
held_most : (a : List ℕ) (read : Bool) (bytes : List ℕ) (room : ℕ) → (transact_of (state_in a) read bytes room).length ≤ 27
unfolding transact_of transact_reply state_in cells_in
held_most a read bytes room =
    reply_most (thirteen_side (state_in a)) 26 (omega arith) (λ command. omega (arith, cells_length (state_in a).pack.cells)) bytes (asked read bytes)
    (transact_answer (state_in a) read bytes room)

module _ (a : List ℕ) (read : Bool) (bytes room : List ℕ) {l : Answered ThirteenState} (loaded : l ≡ loaded_of a) where
  pub transact-none : (l.answer ≡ 0 → ⊥)
      → (1 ≡ transact_number a read bytes room) × ((a ≡ transact_area a read bytes room) × (room ≡ transact_room a read bytes room))
  unfolding transact_number transact_area transact_room
  transact-none h = let none = no_area a loaded h in (rw none, (rw none, rw none))

  pub transact_most : {out : Transacted ThirteenState} → l.answer ≡ 0 → out ≡ transact_of l.state read bytes (length room) → out.length ≤ 27
  transact_most z eo = rw (eo, (an_area a loaded z).1) (held_most a read bytes (length room))

  pub transact-done : {out : Transacted ThirteenState} {r : ℕ} {a' room' : List ℕ} → l.answer ≡ 0
      → out ≡ transact_of l.state read bytes (length room)
      → room' ≡ reply_room l.state read bytes room
      → a' ≡ error_stored a out.answer out.state.error
      → r ≡ packed out.answer out.length
      → (r ≡ transact_number a read bytes room) × ((a' ≡ transact_area a read bytes room) × (room' ≡ transact_room a read bytes room))
  unfolding transact_number transact_area transact_room
  transact-done z eo em ea er =
      let t = an_area a loaded z in
      let o = eo ∙ ap (λ (s : ThirteenState). transact_of s read bytes (length room)) t.1 in (
        rw t.0 (er ∙ ap (λ (q : Transacted ThirteenState). packed q.answer q.length) o),
        (
          rw t.0 (ea ∙ ap (λ (q : Transacted ThirteenState). error_stored a q.answer q.state.error) o),
          rw t.0 (em ∙ ap (λ (s : ThirteenState). reply_room s read bytes room) t.1),
        ),
      )
