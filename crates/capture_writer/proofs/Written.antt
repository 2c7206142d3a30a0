-- What the writer writes: the capture of the rows given. Assumes nothing.
use mathlib.Core.Path.{◌≡◌, refl, sym, ap, ◌∙◌}
use mathlib.Core.Bool.{Bool, true, false, cond, ◌&&◌, and-eq-true_iff}
use mathlib.Core.List.{List, [], ◌∷◌, ◌++◌}
use Prim.Native.Nat.{ℕ, suc, ◌+◌, ◌*◌, ◌≤◌}
use native.Mathlib.Omega.{arith}
use lib.Dec.{leb, eqb}
use lib.ListN.{length, take, drop, set, length-append, length-take, length-drop, take-append-drop}
use lib.Seq.{sets}
use borrow.Author.Tests.{leb-true, eqb-true}
use Rattle.std.specs.Prelude.{Result, Ok, Err}
use Rattle.refusals.specs.declared.Refusal.{Refusal}
use Rattle.refusals.specs.declared.Refusal.TheVariants.{SmallRoom, NotACapture}
use Rattle.rooms.specs.Rooms.{placed}
use Rattle.rooms.proofs.Rooms.{then, front}
use Rattle.capture.specs.Capture.{table_of, row_bodies}
use Rattle.capture_writer.specs.Writer.{rows_given, interleaved, pairs_fit, sum, given_fit, room_asked, capture_given, capture_allowed, capture_wrote, capture_room}

-- what the writer's test finds
pub record Given (marks sizes bodies : List ℕ) : Type 0 where
  pub even : length marks ≡ length sizes
  pub byte : length marks ≤ 255
  pub pairs : pairs_fit marks sizes ≡ true
  pub total : sum sizes ≡ length bodies

pub given : (marks sizes bodies : List ℕ) → given_fit marks sizes bodies ≡ true → Given marks sizes bodies
unfolding given_fit
given marks sizes bodies e =
    let b = (and-eq-true_iff (eqb (length marks) (length sizes) && leb (length marks) 255 && pairs_fit marks sizes) (eqb (sum sizes) (length bodies))).0 e in
    let c = (and-eq-true_iff (eqb (length marks) (length sizes) && leb (length marks) 255) (pairs_fit marks sizes)).0 b.0 in
    let d = (and-eq-true_iff (eqb (length marks) (length sizes)) (leb (length marks) 255)).0 c.0 in
    record { even = eqb-true (length marks) (length sizes) d.0; byte = leb-true (length marks) 255 d.1; pairs = c.1; total = eqb-true (sum sizes) (length bodies) b.1 }

pub given_count : (marks sizes bodies : List ℕ) → length marks ≡ length sizes → length (rows_given marks sizes bodies) ≡ length marks
unfolding rows_given
given_count [] sizes bodies e = refl
given_count (m ∷ marks) [] bodies e = absurd (omega arith)
given_count (m ∷ marks) (l ∷ sizes) bodies e = ap suc (given_count marks sizes (drop l bodies) (omega arith))

pub interleaved_length : (marks sizes : List ℕ) → length marks ≡ length sizes → length (interleaved marks sizes) ≡ 2 * length marks
unfolding interleaved
interleaved_length [] sizes e = refl
interleaved_length (m ∷ marks) [] e = absurd (omega arith)
interleaved_length (m ∷ marks) (l ∷ sizes) e = omega (arith, interleaved_length marks sizes (omega arith))

pub given_table : (marks sizes bodies : List ℕ) → length marks ≡ length sizes → sum sizes ≡ length bodies → table_of (rows_given marks sizes bodies) ≡ interleaved marks sizes
unfolding rows_given interleaved table_of sum
given_table [] sizes bodies e t = refl
given_table (m ∷ marks) [] bodies e t = refl
given_table (m ∷ marks) (l ∷ sizes) bodies e t =
    let a : length (take l bodies) ≡ l = rw length-take (omega arith) in
    let b : sum sizes ≡ length (drop l bodies) = rw length-drop (omega arith) in
    rw (a, given_table marks sizes (drop l bodies) (omega arith) b)

pub given_bodies : (marks sizes bodies : List ℕ) → length marks ≡ length sizes → sum sizes ≡ length bodies → row_bodies (rows_given marks sizes bodies) ≡ bodies
unfolding rows_given row_bodies sum
given_bodies [] [] [] e t = refl
given_bodies [] [] (b ∷ bodies) e t = absurd (omega arith)
given_bodies [] (l ∷ sizes) bodies e t = absurd (omega arith)
given_bodies (m ∷ marks) [] bodies e t = absurd (omega arith)
given_bodies (m ∷ marks) (l ∷ sizes) bodies e t =
    let b : sum sizes ≡ length (drop l bodies) = rw length-drop (omega arith) in
    rw (given_bodies marks sizes (drop l bodies) (omega arith) b) (take-append-drop l bodies)

module _ (marks sizes bodies room : List ℕ) where
  tests : {t : Result (Unit {0}) Refusal} {unit : Unit {0}} → t ≡ capture_allowed marks sizes bodies (length room) → t ≡ Ok unit → (leb (room_asked marks sizes bodies) (length room) ≡ true) × (given_fit marks sizes bodies ≡ true)
  tests e z = by_tests (leb (room_asked marks sizes bodies) (length room)) (given_fit marks sizes bodies) (sym e ∙ z)
    where
      by_tests : (b c : Bool) {unit : Unit {0}} → cond b (cond c (Ok (tt {0})) (Err NotACapture)) (Err SmallRoom) ≡ Ok unit → (b ≡ true) × (c ≡ true)
      by_tests true true h = (refl, refl)
      by_tests true false h = cc
      by_tests false c h = cc

  -- where it may be written, the room is long enough, and the rows fit
  pub not_refused : {t : Result (Unit {0}) Refusal} {unit : Unit {0}} → t ≡ capture_allowed marks sizes bodies (length room) → t ≡ Ok unit → (room_asked marks sizes bodies ≤ length room) × Given marks sizes bodies
  not_refused e z = let both = tests e z in (leb-true (room_asked marks sizes bodies) (length room) both.0, given marks sizes bodies both.1)

  pub refused : {t : Result (Unit {0}) Refusal} {reason : Refusal} → t ≡ capture_allowed marks sizes bodies (length room) → t ≡ Err reason → (Err reason ≡ capture_wrote marks sizes bodies room) × (room ≡ capture_room marks sizes bodies room)
  unfolding capture_wrote capture_room
  refused {t} {reason} e z = by_tests (leb (room_asked marks sizes bodies) (length room)) (given_fit marks sizes bodies) (sym e ∙ z)
    where
      by_tests : (b c : Bool) → cond b (cond c (Ok (tt {0})) (Err NotACapture)) (Err SmallRoom) ≡ Err reason
          → (Err reason ≡ cond b (cond c (Ok (length (capture_given marks sizes bodies))) (Err NotACapture)) (Err SmallRoom)) × (room ≡ cond (b && c) (placed (capture_given marks sizes bodies) room) room)
      by_tests true true h = cc
      by_tests true false h = (cc, refl)
      by_tests false c h = (cc, refl)

  -- the capture, as it is stored
  given_is : Given marks sizes bodies → capture_given marks sizes bodies ≡ length marks ∷ (interleaved marks sizes ++ bodies)
  given_is g = rw (given_count marks sizes bodies g.even, given_table marks sizes bodies g.even g.total, given_bodies marks sizes bodies g.even g.total)

  given-length : Given marks sizes bodies → length (capture_given marks sizes bodies) ≡ 2 * length marks + 1 + length bodies
  given-length g = ap length (given_is g) ∙ rw (length-append, interleaved_length marks sizes g.even) (omega arith)

  pub served : {t : Result (Unit {0}) Refusal} {unit : Unit {0}} → t ≡ capture_allowed marks sizes bodies (length room) → t ≡ Ok unit
      → {r₁ r₂ : List ℕ} → r₁ ≡ sets (set room 0 (length marks)) 1 (interleaved marks sizes) → {place : ℕ} → place ≡ 2 * length marks + 1 → r₂ ≡ sets r₁ place bodies
      → (Ok (place + length bodies) ≡ capture_wrote marks sizes bodies room) × (r₂ ≡ capture_room marks sizes bodies room)
  unfolding capture_wrote capture_room
  served e z {r₁} {r₂} h₁ {place} p h₂ =
      let o = not_refused e z in
      let both = tests e z in
      let g = o.1 in
      let n : place + length bodies ≡ length (capture_given marks sizes bodies) = omega (arith, given-length g) in
      let at : place ≡ 0 + length (length marks ∷ interleaved marks sizes) = omega (arith, interleaved_length marks sizes g.even) in
      let stored = h₂ ∙ then room 0 place (length marks ∷ interleaved marks sizes) bodies h₁ at ∙ ap (sets room 0) (sym (given_is g)) in
      let fits : length (capture_given marks sizes bodies) ≤ length room = omega (arith, o.0, given-length g, g.even) in
      (simp (both.0, both.1) (ap Ok n), simp (both.0, both.1) (stored ∙ front (capture_given marks sizes bodies) room fits))
