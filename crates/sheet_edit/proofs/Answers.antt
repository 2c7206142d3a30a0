-- Each result, by the tests that led to it; and what a served edit passed. Assumes nothing.
use mathlib.Core.Path.{◌≡◌, refl, sym, ap, ◌∙◌}
use mathlib.Core.Bool.{Bool, true, false, and-eq-true_iff}
use mathlib.Core.List.{List}
use mathlib.Core.Option.{Option, none, some}
use Prim.Native.Nat.{ℕ, ◌≤◌, ◌<◌}
use native.Mathlib.Omega.{arith}
use lib.Dec.{leb}
use lib.ListN.{length, take}
use borrow.Author.Tests.{le-leb, lt-leb, leb-true}
use Rattle.std.specs.Prelude.{Result, Ok, Err}
use Rattle.std.specs.Result.{IfOk}
use Rattle.refusals.specs.declared.Refusal.{Refusal}
use Rattle.refusals.specs.declared.Refusal.TheVariants.{BadSheet, BadTag, LongBody, LongSheet}
use Rattle.rooms.specs.Rooms.{Bytes}
use Rattle.sheet.specs.Sheet.{Entry, old, sheet_of, is_sheet}
use Rattle.sheet.proofs.Lengths.{at_most_145}
use Rattle.sheet.proofs.Tags.{allows-is}
use Rattle.sheet_forms.specs.Forms.{listable}
use Rattle.sheet_forms.proofs.Forms.{old_proper, is-sheet}
use Rattle.sheet_edit.specs.Edit.{edited, holds_sheet, sheet_after, is_name, size_of, require, edit_of, room_with, room_after}
use Rattle.sheet_edit.specs.Tests.{tested}
use Rattle.sheet_edit.proofs.After.{Allowed, edited_may}
use Rattle.sheet_edit.proofs.Rooms.{Front, front, sheet_is}

-- a name's tag leaves room above it
pub name_most : (tag : ℕ) → is_name tag ≡ true → tag ≤ 0x23
name_most tag e = leb-true tag 0x23 ((and-eq-true_iff (leb 0x20 tag) (leb tag 0x23)).0 e).1

-- ---- three tests

all_passed : {A : Type 0} (x y z : Bool) {next : Result A Refusal} {v : A} → require x BadSheet (require y BadTag (require z LongBody next)) ≡ Ok v → (x ≡ true) × (y ≡ true) × (z ≡ true) × (next ≡ Ok v)
all_passed true true true e = (refl, refl, refl, e)
all_passed true true false e = absurd (cc)
all_passed true false z e = absurd (cc)
all_passed false y z e = absurd (cc)

one_failed : {A B : Type 0} (x y z : Bool) (v : A) (next : Result B Refusal) {reason : Refusal} → require x BadSheet (require y BadTag (require z LongBody (Ok v))) ≡ Err reason
    → require x BadSheet (require y BadTag (require z LongBody next)) ≡ Err reason
one_failed true true true v next e = absurd (cc)
one_failed true true false v next e = cc
one_failed true false z v next e = cc
one_failed false y z v next e = cc

last_passed : (d : Bool) {n m : ℕ} → require d LongSheet (Ok n) ≡ Ok m → (d ≡ true) × (m ≡ n)
last_passed true e = (refl, cc)
last_passed false e = absurd (cc)

module _ (room : List ℕ) (stated tag : ℕ) where
  module _ {A : Type 0} (size : ℕ) (next : Result A Refusal) where
    pub past_room : length room < stated → Err BadSheet ≡ tested room stated tag size next
    unfolding tested holds_sheet
    past_room h = rw (lt-leb _ _ h)

    pub no-sheet : stated ≤ length room → is_sheet (take stated room) ≡ false → Err BadSheet ≡ tested room stated tag size next
    unfolding tested holds_sheet
    no-sheet h e = rw (le-leb _ _ h, e)

    pub no_name : stated ≤ length room → is_sheet (take stated room) ≡ true → is_name tag ≡ false → Err BadTag ≡ tested room stated tag size next
    unfolding tested holds_sheet
    no_name h e k = rw (le-leb _ _ h, e, k)

    pub long-body : stated ≤ length room → is_sheet (take stated room) ≡ true → is_name tag ≡ true → 32 < size → Err LongBody ≡ tested room stated tag size next
    unfolding tested holds_sheet
    long-body h e k l = rw (le-leb _ _ h, e, k, lt-leb _ _ l)

    pub no-refusal : stated ≤ length room → is_sheet (take stated room) ≡ true → is_name tag ≡ true → size ≤ 32 → next ≡ tested room stated tag size next
    unfolding tested holds_sheet
    no-refusal h e k l = rw (le-leb _ _ h, e, k, le-leb _ _ l)

  -- each test is passed
  pub record Passed (size : ℕ) : Type 0 where
    pub holds : holds_sheet room stated ≡ true
    pub name : is_name tag ≡ true
    pub short : size ≤ 32

  pub passed : {A : Type 0} (size : ℕ) (v : A) {w : A} → tested room stated tag size (Ok v) ≡ Ok w → Passed size × (w ≡ v)
  unfolding tested
  passed size v e =
      let t = all_passed (holds_sheet room stated) (is_name tag) (leb size 32) e in
      (record { holds = t.0; name = t.1; short = leb-true _ _ t.2 }, cc)

  pub not_passed : {A B : Type 0} (size : ℕ) (v : A) (next : Result B Refusal) {reason : Refusal} → tested room stated tag size (Ok v) ≡ Err reason
      → tested room stated tag size next ≡ Err reason
  unfolding tested
  not_passed size v next e = one_failed (holds_sheet room stated) (is_name tag) (leb size 32) v next e

  pub go_on : {A : Type 0} {size : ℕ} {next : Result A Refusal} → Passed size → tested room stated tag size next ≡ next
  unfolding tested
  go_on P = rw (P.holds, P.name, le-leb _ _ P.short)

  module _ (to : Option (List ℕ)) where
    abbrev size : ℕ
    size = size_of to

    -- the last test, and the new sheet's length
    abbrev last : Result ℕ Refusal
    last = require (leb (length (sheet_after room stated tag to)) (length room)) LongSheet (Ok (length (sheet_after room stated tag to)))

    edit_is : edit_of room stated tag to ≡ tested room stated tag size last
    unfolding edit_of tested
    edit_is = refl

    -- what comes out: the result and the room
    abbrev Owed : Result ℕ Refusal → List ℕ → Type 0
    Owed r s = (r ≡ edit_of room stated tag to) × (s ≡ room_after room stated tag to)

    by_refusal : {reason : Refusal} → edit_of room stated tag to ≡ Err reason → Owed (Err reason) room
    unfolding room_after
    by_refusal e = (sym e, rw e)

    pub refused : {A : Type 0} (v : A) {reason : Refusal} → tested room stated tag size (Ok v) ≡ Err reason → Owed (Err reason) room
    refused v e = by_refusal (edit_is ∙ not_passed size v last e)

    pub too_long : Passed size → (l : ℕ) → l ≡ length (sheet_after room stated tag to) → length room < l → Owed (Err LongSheet) room
    too_long P l e h = by_refusal (edit_is ∙ go_on P ∙ rw (← e, lt-leb _ _ h))

    pub is-done : Passed size → length (sheet_after room stated tag to) ≤ length room → edit_of room stated tag to ≡ Ok (length (sheet_after room stated tag to))
    is-done P h = edit_is ∙ go_on P ∙ rw (le-leb _ _ h)

    pub served : Passed size → (l : ℕ) (s : List ℕ) → l ≡ length (sheet_after room stated tag to) → l ≤ length room
        → s ≡ room_with (sheet_after room stated tag to) stated room → Owed (Ok l) s
    unfolding room_after
    served P l s e h q =
        let d = is-done P (omega arith) in
        (rw e (sym d), rw d q)

    -- ---- a served edit

    pub record Done (new : ℕ) : Type 0 where
      pub tests : Passed size
      pub fits : length (sheet_after room stated tag to) ≤ length room
      pub room_is : room_after room stated tag to ≡ room_with (sheet_after room stated tag to) stated room
      pub length-is : new ≡ length (sheet_after room stated tag to)

    pub done : {new : ℕ} → edit_of room stated tag to ≡ Ok new → Done new
    unfolding edit_of room_after
    done e =
        let n : ℕ = length (sheet_after room stated tag to) in
        let p = all_passed (holds_sheet room stated) (is_name tag) (leb size 32) e in
        let t = last_passed (leb n (length room)) p.3 in
        record { tests = record { holds = p.0; name = p.1; short = leb-true _ _ p.2 }; fits = leb-true _ _ t.0; room_is = rw e; length-is = t.1 }

-- ---- the new sheet

-- what passes the tests may stand under its tag
pub may_stand : (tag : ℕ) (to : Option (List ℕ)) → is_name tag ≡ true → size_of to ≤ 32 → Allowed old.kinds tag to
may_stand tag none n h = tt
may_stand tag (some body) n h = allows-is tag (length body) ∙ rw (n, le-leb _ _ h)

module _ {room : List ℕ} {stated : ℕ} (F : Front room stated) (tag : ℕ) (to : Option (List ℕ)) where
  abbrev pub now : List Entry
  now = edited tag to F.entries

  pub now-may : Allowed old.kinds tag to → listable old.kinds 0 now ≡ true
  now-may a = edited_may old.kinds 0 tag to F.entries F.may (omega arith) a

  pub now-most : Passed room stated tag (size_of to) → length (sheet_after room stated tag to) ≤ 145
  now-most P = omega (arith, ap length (sheet_is F tag to), at_most_145 (sheet_of old now) (is-sheet old old_proper now (now-may (may_stand tag to P.name P.short))))

-- no new sheet is longer than 145
pub edit_most : (room : List ℕ) (stated tag : ℕ) (to : Option (List ℕ)) → Bytes room → (r : Result ℕ Refusal) → r ≡ edit_of room stated tag to → IfOk r (λ n. n ≤ 145)
edit_most room stated tag to bytes (Err reason) e = tt
edit_most room stated tag to bytes (Ok n) e =
    let D = done room stated tag to (sym e) in
    let m = now-most (front room stated D.tests.holds bytes) tag to D.tests in
    omega (arith, D.length-is)
