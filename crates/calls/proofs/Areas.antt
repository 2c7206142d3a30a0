-- The calls on an area: what a load tells, what a store leaves, and each call's numbers put together.
-- Assumes nothing.
use mathlib.Core.Bool.{Bool, true, false, true≢false}
use mathlib.Core.List.{List}
use mathlib.Core.Path.{◌≡◌, refl, sym, ap, ap₂, ◌∙◌}
use Prim.Native.Nat.{ℕ, ◌≤◌}
use native.Mathlib.Omega.{arith}
use borrow.Author.Tests.{eq-eqb, ne_eqb, le-leb}
use lib.ListN.{length}
use Rattle.area.specs.Area.{area_length, area_of, state_in, is_area, loaded_of}
use Rattle.area.specs.Area as area
use Rattle.pack.specs.declared.Answered.{Answered}
use Rattle.bus.specs.Transact.{pack_side, asked, transact_answer, transact_of}
use Rattle.bus.specs.Transact as bus
use Rattle.commands.specs.declared.Transacted.{Transacted}
use Rattle.commands.proofs.Answers.{reply_most}
use Rattle.broadcasts.proofs.Sending.{at_most_20}
use Rattle.clock.proofs.Outcome.{outcome}
use Rattle.clock.specs.Broadcast.{sampled_of, sample_of}
use Rattle.clock.specs.Broadcast as clock
use Rattle.clock.specs.Sample.{moved_of, elapsed_of}
use Rattle.clock.specs.declared.Sampled.{Sampled}
use Rattle.start.specs.SetUp.{set_up_refused, pack_of, set_up_of}
use Rattle.pack.proofs.Soundness.{parts, pack_of_sound}
use Rattle.pack.specs.Kept.{latest_of}
use Rattle.pack.specs.Sound.{sound_of}
use Rattle.pack.specs.declared.Sample.{Sample}
use Rattle.start.specs.declared.Setup.{Setup}
use Rattle.pack.specs.declared.State.{State}
use Rattle.seconds.proofs.After.{after_sound}
use Rattle.recent.proofs.Soundness.{recent_facts}
use Rattle.sheet.proofs.Names.{block-short}
use Rattle.rooms.proofs.Choice.{chosen}
use Rattle.calls.specs.Calls.{start_number, start_area, stays, area_after, sample_number, sample_area, sample_room, transact_number, transact_area, transact_room}
use Rattle.packed.specs.Packed.{packed}

-- ---- loaded and stored

pub no_area : (a : List ℕ) {l : Answered State} → l ≡ loaded_of a → (l.answer ≡ 0 → ⊥) → is_area a ≡ false
unfolding loaded_of
no_area a e h =
    chosen (λ (m : Answered State). (m.answer ≡ 0 → ⊥) → is_area a ≡ false) (is_area a) (λ f k. absurd (k refl)) (λ f k. f)
    (λ z. h (ap (λ (m : Answered State). m.answer) e ∙ z))

pub an_area : (a : List ℕ) {l : Answered State} → l ≡ loaded_of a → l.answer ≡ 0 → (is_area a ≡ true) × (l.state ≡ state_in a)
unfolding loaded_of
an_area a e z =
    let t =
    chosen (λ (m : Answered State). m.answer ≡ 0 → (is_area a ≡ true) × (m.state ≡ state_in a)) (is_area a) (λ f k. (f, refl))
    (λ f k. absurd (omega (arith, k))) (sym (ap (λ (m : Answered State). m.answer) e) ∙ z) in
    (t.0, ap (λ (m : Answered State). m.state) e ∙ t.1)

-- a state of at most 60 seconds goes into an area
pub stored : (s : State) (room : List ℕ) → length room ≡ area_length → s.pack.recent.count ≤ 60 → area.stored_room s room ≡ area_of s
unfolding area.stored_room
stored s room n most = rw (eq-eqb _ _ n, le-leb s.pack.recent.count 255 (omega (arith, most)))

-- ---- set-up

pub start_refused : (a : List ℕ) {t u : Answered State} {r : ℕ} → length a ≡ area_length → t ≡ u → (t.answer ≡ 0 → ⊥) → r ≡ packed t.answer 0
    → (r ≡ start_number a u) × (a ≡ start_area a u)
start_refused a {t} {u} {r} size e h er =
    let ea : t.answer ≡ u.answer = ap (λ (x : Answered State). x.answer) e in
    let same : r ≡ u.answer = omega (arith, er, ea) in
    (rw (eq-eqb _ _ size) same, rw (eq-eqb _ _ size, ne_eqb u.answer 0 (λ z. h (ea ∙ z))))

start_most : (x : Setup) (y : Sample) → (set_up_of x y).state.pack.recent.count ≤ 60
unfolding set_up_of pack_of
start_most x y = chosen (λ (t : Answered State). t.state.pack.recent.count ≤ 60) (set_up_refused x) (λ e. omega arith) (λ e. omega arith)

pub start_served : (a : List ℕ) (x : Setup) (y : Sample) {t : Answered State} {a' : List ℕ} → length a ≡ area_length → t ≡ set_up_of x y → t.answer ≡ 0
    → a' ≡ area.stored_room t.state a → (0 ≡ start_number a (set_up_of x y)) × (a' ≡ start_area a (set_up_of x y))
start_served a x y size e z ea =
    let z' : (set_up_of x y).answer ≡ 0 = sym (ap (λ (s : Answered State). s.answer) e) ∙ z in
    let put = ea ∙ ap (λ (s : Answered State). area.stored_room s.state a) e ∙ stored (set_up_of x y).state a size (start_most x y) in
    (rw (eq-eqb _ _ size) (sym z'), rw (eq-eqb _ _ size, eq-eqb _ _ z') put)

-- ---- samples

-- a sound state keeps at most 60 seconds after a sample too
served_count : (s : State) (x : Sample) → sound_of s ≡ true → (sampled_of s.pack x).recent.count ≤ 60
unfolding sampled_of moved_of
served_count s x h =
    let elapsed = elapsed_of x.counter s.pack.latest.counter in
    (recent_facts _ (after_sound s.pack.recent (latest_of x).current elapsed (parts s.pack (pack_of_sound s h)).recent)).most

pub sample_count : (s : State) (x : Sample) (n : ℕ) → stays (sample_of s x n).answer ≡ false → (sample_of s x n).state.pack.recent.count ≤ 60
sample_count s x n =
    outcome (λ r. stays r.answer ≡ false → r.state.pack.recent.count ≤ 60) s x n (λ h. absurd (true≢false h)) (λ h. absurd (true≢false h))
    (λ sound h. served_count s x sound)

pub sample_most : (s : State) (x : Sample) (n : ℕ) → (sample_of s x n).length ≤ 20
sample_most s x n = outcome (λ r. r.length ≤ 20) s x n (omega arith) (omega arith) (λ sound. at_most_20 (moved_of s.pack x))

module _ (a : List ℕ) (x : Sample) (room : List ℕ) {l : Answered State} (loaded : l ≡ loaded_of a) where
  pub sample-none : (l.answer ≡ 0 → ⊥) → (1 ≡ sample_number a x room) × ((a ≡ sample_area a x room) × (room ≡ sample_room a x room))
  unfolding sample_number sample_area sample_room
  sample-none h = let none = no_area a loaded h in (rw none, (rw none, rw none))

  pub sample-done : {y : Sample} {out : Sampled} {r : ℕ} {a' room' : List ℕ} → l.answer ≡ 0 → y ≡ x → out ≡ sample_of l.state y (length room)
      → room' ≡ clock.broadcast_room l.state y room → a' ≡ area_after a out.answer out.state → r ≡ packed out.answer out.length
      → (r ≡ sample_number a x room) × ((a' ≡ sample_area a x room) × (room' ≡ sample_room a x room))
  unfolding sample_number sample_area sample_room
  sample-done {y} {out} z same eo em ea er =
      let t = an_area a loaded z in
      let o = eo ∙ ap₂ (λ (s : State) (v : Sample). sample_of s v (length room)) t.1 same in (
        rw t.0 (er ∙ ap (λ (q : Sampled). packed q.answer q.length) o),
        (
          rw t.0 (ea ∙ ap (λ (q : Sampled). area_after a q.answer q.state) o),
          rw t.0 (em ∙ ap₂ (λ (s : State) (v : Sample). clock.broadcast_room s v room) t.1 same),
        ),
      )

-- ---- transactions

module _ (s : State) (service factory : List ℕ) (read : Bool) (bytes : List ℕ) (room : ℕ) where
  pub transact_most : (transact_of s service factory read bytes room).length ≤ 34
  unfolding transact_of
  transact_most =
      reply_most (pack_side s service factory) 33 (omega arith) (λ command. omega (arith, block-short service factory command)) bytes (asked read bytes)
      (transact_answer s service factory read bytes room)

module _ (a service factory : List ℕ) (read : Bool) (bytes room : List ℕ) {l : Answered State} (loaded : l ≡ loaded_of a) where
  pub transact-none : (l.answer ≡ 0 → ⊥)
      → (1 ≡ transact_number a service factory read bytes room)
      × ((a ≡ transact_area a service factory read bytes room) × (room ≡ transact_room a service factory read bytes room))
  unfolding transact_number transact_area transact_room
  transact-none h = let none = no_area a loaded h in (rw none, (rw none, rw none))

  pub transact-done : {out : Transacted State} {r : ℕ} {a' room' : List ℕ} → l.answer ≡ 0
      → out ≡ transact_of l.state service factory read bytes (length room)
      → room' ≡ bus.reply_room l.state service factory read bytes room
      → a' ≡ area_after a out.answer out.state
      → r ≡ packed out.answer out.length
      → (r ≡ transact_number a service factory read bytes room)
      × ((a' ≡ transact_area a service factory read bytes room) × (room' ≡ transact_room a service factory read bytes room))
  unfolding transact_number transact_area transact_room
  transact-done {out} z eo em ea er =
      let t = an_area a loaded z in
      let o = eo ∙ ap (λ (s : State). transact_of s service factory read bytes (length room)) t.1 in (
        rw t.0 (er ∙ ap (λ (q : Transacted State). packed q.answer q.length) o),
        (
          rw t.0 (ea ∙ ap (λ (q : Transacted State). area_after a q.answer q.state) o),
          rw t.0 (em ∙ ap (λ (s : State). bus.reply_room s service factory read bytes room) t.1),
        ),
      )
