-- What the code knows past its tests: the sheet at the front, the span of the tag, and its numbers. Assumes nothing.
use mathlib.Core.Path.{◌≡◌, sym, ap, ◌∙◌}
use mathlib.Core.List.{List}
use Prim.Native.Nat.{ℕ, ◌<◌, ◌≤◌, ◌+◌, ◌*◌}
use native.Mathlib.Omega.{arith}
use lib.ListN.{length, get_or, take}
use Rattle.std.specs.Prelude.{Ok}
use Rattle.rooms.proofs.Rooms.{all_bytes}
use Rattle.sheet_steps.specs.declared.Span.{Span}
use Rattle.sheet_steps.specs.Steps.{span_in}
use Rattle.sheet_edit.specs.declared.Found.{Found}
use Rattle.sheet_edit.specs.Tests.{tested, without, found_in}
use Rattle.sheet_edit.proofs.Answers.{Passed, passed, name_most}
use Rattle.sheet_edit.proofs.Rooms.{Front, front, count_is, rows_in}
use Rattle.sheet_edit.proofs.Whole.{Spanned, spanned, Sizes, sizes}

module _ (room : List ℕ) (stated tag size : ℕ) (bytes : (i : ℕ) → get_or room i 0 < 256) where
  -- past the tests
  module _ (P : Passed room stated tag size) where
    pub at_front : Front room stated
    at_front = front room stated P.holds (all_bytes room bytes)

    module _ {k : ℕ} (w : k ≡ get_or room 0 0) where
      -- what the search for the span asks
      pub searched : (1 + 4 * k ≤ length (take stated room)) × (k ≤ 6) × (tag < 255)
      searched = let F = at_front in omega (arith, rows_in F, F.few, w, count_is F, name_most tag P.name)

      module _ {p : Span} (s : p ≡ span_in (take stated room) k tag) where
        abbrev pub span : Spanned at_front tag k p
        span = spanned at_front tag k p (w ∙ count_is at_front) s

        pub numbers : Sizes at_front tag span
        numbers = sizes at_front tag span

  -- past the look-up
  pub record Known (f : Found) : Type 0 where
    pub tests : Passed room stated tag size
    pub front_is : Front room stated
    pub rows_is : f.rows ≡ get_or room 0 0
    pub left_is : f.left ≡ without stated f.span
    pub span_is : Spanned front_is tag f.rows f.span
    pub sizes_are : Sizes front_is tag span_is

  pub known : (f : Found) → Ok f ≡ tested room stated tag size (Ok (found_in room stated tag)) → Known f
  unfolding found_in
  known f e =
      let p = passed room stated tag size (found_in room stated tag) (sym e) in
      let rows : f.rows ≡ get_or room 0 0 = ap (λ (x : Found). x.rows) p.1 in
      let span : f.span ≡ span_in (take stated room) f.rows tag = ap (λ (x : Found). x.span) p.1 ∙ ap (λ (k : ℕ). span_in (take stated room) k tag) (sym rows) in
      let S : Spanned (at_front p.0) tag f.rows f.span = spanned (at_front p.0) tag f.rows f.span (rows ∙ count_is (at_front p.0)) span in
      record {
        tests = p.0;
        front_is = at_front p.0;
        rows_is = rows;
        left_is = ap (λ (x : Found). x.left) p.1 ∙ ap (without stated) (sym (ap (λ (x : Found). x.span) p.1));
        span_is = S;
        sizes_are = sizes (at_front p.0) tag S;
      }
