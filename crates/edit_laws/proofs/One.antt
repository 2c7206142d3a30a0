-- The theorems on one edit. Assumes nothing.
use mathlib.Core.Path.{◌≡◌, refl, sym, ap, subst₂, ◌∙◌}
use mathlib.Core.Logic.{◌↔◌}
use mathlib.Core.Bool.{Bool, true, false, cond, and-eq-true_iff}
use mathlib.Core.List.{List, [], ◌++◌, append_assoc}
use mathlib.Core.Option.{Option, none, some, get_or}
use Prim.Native.Nat.{ℕ, ◌-◌, max, ◌≤◌, ◌<◌}
use native.Mathlib.Omega.{arith}
use lib.Dec.{eqb, leb}
use lib.ListN.{length, take, drop, replicate, length-append, length-replicate}
use lib.Seq.{drop-append_seam, take_at, drop_at}
use borrow.Author.Tests.{eq-eqb, eqb-true, leb-true, leb-false, le-leb}
use Rattle.std.specs.Prelude.{Ok, Err}
use Rattle.std.specs.Result.{is_ok}
use Rattle.refusals.specs.declared.Refusal.TheVariants.{LongSheet}
use Rattle.rooms.specs.Rooms.{Bytes}
use Rattle.sheet.specs.Sheet.{Entry, old, sheet_of, is_sheet, entries_in, among, body_in}
use Rattle.sheet.proofs.Tags.{allows-is, allowed-short}
use Rattle.sheet_forms.specs.Forms.{listable}
use Rattle.sheet_forms.proofs.Entries.{among_allowed}
use Rattle.sheet_forms.proofs.Forms.{old_proper, is-sheet}
use Rattle.sheet_laws.proofs.Named.{name_of}
use Rattle.sheet_edit.specs.Edit.{edited, holds_sheet, sheet_after, is_name, size_of, require, edit_of, room_with, room_after}
use Rattle.sheet_edit.proofs.Answers.{Passed, Done, done, is-done, may_stand, now, now-may, now-most}
use Rattle.sheet_edit.proofs.After.{Allowed, edited_may}
use Rattle.sheet_edit.proofs.Rooms.{Front, front, sheet_is}
use Rattle.sheet_edit.proofs.Whole.{removed-fits}
use Rattle.edit_laws.specs.Laws.{EditLists, EditReads, EditNamed, EditBehind, Nothing, SetNothing, RemoveNothing, EditTwenty, EditRoomEnough, RemoveServed}
use Rattle.edit_laws.proofs.Entries.{among_edited, same_entries}
use Rattle.edit_laws.proofs.Rooms.{own_room, front_of, with_length, listed, in-front}

-- ---- a served edit

module _ (room : List ℕ) (stated tag : ℕ) (to : Option (List ℕ)) (new : ℕ) (bytes : Bytes room) (e : edit_of room stated tag to ≡ Ok new) where
  abbrev D : Done room stated tag to new
  D = done room stated tag to e

  abbrev F : Front room stated
  F = front room stated D.tests.holds bytes

  abbrev s : List ℕ
  s = sheet_of old (now F tag to)

  may : listable old.kinds 0 (now F tag to) ≡ true
  may = now-may F tag to (may_stand tag to D.tests.name D.tests.short)

  room-after : room_after room stated tag to ≡ room_with s stated room
  room-after = D.room_is ∙ ap (λ (x : List ℕ). room_with x stated room) (sheet_is F tag to)

  length-after : new ≡ length s
  length-after = D.length-is ∙ ap length (sheet_is F tag to)

  front-after : take new (room_after room stated tag to) ≡ s
  front-after =
      ap (λ (n : ℕ). take n (room_after room stated tag to)) length-after ∙ ap (λ (r : List ℕ). take (length s) r) room-after ∙ front_of s room stated

  holds_after : holds_sheet (room_after room stated tag to) new ≡ true
  holds_after =
      ap (λ (n : ℕ). holds_sheet (room_after room stated tag to) n) length-after ∙ ap (λ (r : List ℕ). holds_sheet r (length s)) room-after
      ∙ in-front (now F tag to) may room stated

  reads-after : (t : ℕ) → body_in (take new (room_after room stated tag to)) t ≡ cond (eqb tag t) to (body_in (take stated room) t)
  reads-after t =
      ap (λ (x : List ℕ). body_in x t) front-after
      ∙ ap (λ (x : List Entry). among t x) (listed (now F tag to) may)
      ∙ among_edited old.kinds 0 t tag to F.entries F.may
      ∙ ap (λ (x : List Entry). cond (eqb tag t) to (among t x)) (sym F.listed)

pub lists : EditLists
lists room stated tag to new bytes e = (
  holds_after room stated tag to new bytes e,
  ap entries_in (front-after room stated tag to new bytes e)
      ∙ listed (now (F room stated tag to new bytes e) tag to) (may room stated tag to new bytes e)
      ∙ ap (λ (x : List Entry). edited tag to x) (sym (F room stated tag to new bytes e).listed),
)

pub reads : EditReads
reads = reads-after

pub named : EditNamed
named room stated tag to new bytes e factory h =
    let service : List ℕ = take new (room_after room stated tag to) in
    let good : is_sheet service ≡ true = ap is_sheet (front-after room stated tag to new bytes e) ∙ is-sheet old old_proper (now (F room stated tag to new bytes e) tag to) (may room stated tag to new bytes e) in
    let own : body_in service tag ≡ to = reads-after room stated tag to new bytes e tag ∙ rw (eq-eqb tag tag refl) in
    name_of service factory tag good h ∙ ap (λ (o : Option (List ℕ)). get_or o (get_or (body_in factory tag) [])) own

-- what is behind a new sheet of a length, in the room that is left
abbrev Behind : List ℕ → ℕ → List ℕ → ℕ → Type 0
Behind room stated left new =
    (length left ≡ length room) × (take (stated - new) (drop new left) ≡ replicate (stated - new) 0)
    × (drop (max stated new) left ≡ drop (max stated new) room)

behind_sheet : (t room : List ℕ) (stated : ℕ) → stated ≤ length room → length t ≤ length room → Behind room stated (room_with t stated room) (length t)
unfolding room_with
behind_sheet t room stated reach fits =
    let k : ℕ = length t in
    let zs : List ℕ = replicate (stated - k) 0 in
    let rest : List ℕ = drop (max stated k) room in
    let nz : length zs ≡ stated - k = length-replicate (stated - k) 0 in
    let nt : length (t ++ zs) ≡ max stated k = omega (arith, length-append t zs) in
    (with_length t room stated reach fits, rw (drop-append_seam t (zs ++ rest)) (take_at zs rest (stated - k) nz), rw (← append_assoc t zs rest) (drop_at (t ++ zs) rest (max stated k) nt))

pub behind : EditBehind
behind room stated tag to new bytes e =
    let t : List ℕ = s room stated tag to new bytes e in
    let f = F room stated tag to new bytes e in
    let fits : length t ≤ length room = omega (arith, ap length (sheet_is f tag to), (done room stated tag to e).fits) in
    subst₂ (Behind room stated) (sym (room-after room stated tag to new bytes e)) (sym (length-after room stated tag to new bytes e)) (behind_sheet t room stated f.reach fits)

-- ---- what is there, set again

module _ {room : List ℕ} {stated : ℕ} (F : Front room stated) (tag : ℕ) (name : is_name tag ≡ true) where
  abbrev L : List Entry
  L = F.entries

  allowed-there : (to : Option (List ℕ)) → among tag L ≡ to → Allowed old.kinds tag to
  allowed-there none h = tt
  allowed-there (some body) h = among_allowed old.kinds 0 tag body L F.may h

  short-there : (to : Option (List ℕ)) → Allowed old.kinds tag to → size_of to ≤ 32
  short-there none a = omega arith
  short-there (some body) a = allowed-short tag (length body) a

  as_before : (to : Option (List ℕ)) → among tag L ≡ to → edited tag to L ≡ L
  as_before to h =
      same_entries old.kinds 0 (edited tag to L) L (edited_may old.kinds 0 tag to L F.may (omega arith) (allowed-there to h)) F.may
      (λ t. among_edited old.kinds 0 t tag to L F.may ∙ by-test t (eqb tag t) refl)
    where
      by-test : (t : ℕ) (b : Bool) → eqb tag t ≡ b → cond b to (among t L) ≡ among t L
      by-test t true q = sym h ∙ ap (λ (k : ℕ). among k L) (eqb-true tag t q)
      by-test t false q = refl

  unchanged : holds_sheet room stated ≡ true → (to : Option (List ℕ)) → among tag L ≡ to → Nothing room stated tag to
  unchanged ok to h =
      let t : List ℕ = sheet_after room stated tag to in
      let old-one : t ≡ sheet_of old L = sheet_is F tag to ∙ ap (sheet_of old) (as_before to h) in
      let size : length t ≡ stated = ap length old-one ∙ sym F.size in
      let e = is-done room stated tag to (record { holds = ok; name = name; short = short-there to (allowed-there to h) }) (omega (arith, F.reach)) in
      (rw size at e, (done room stated tag to e).room_is ∙ ap (λ (x : List ℕ). room_with x stated room) old-one ∙ own_room F)

-- a tag that is listed is a name's
name_there : (tag : ℕ) (body : List ℕ) (L : List Entry) → listable old.kinds 0 L ≡ true → among tag L ≡ some body → is_name tag ≡ true
name_there tag body L g h = ((and-eq-true_iff (is_name tag) (leb (length body) 32)).0 (sym (allows-is tag (length body)) ∙ among_allowed old.kinds 0 tag body L g h)).0

pub set_nothing : SetNothing
set_nothing room stated tag body bytes ok h =
    let F = front room stated ok bytes in
    let there : among tag F.entries ≡ some body = ap (λ (x : List Entry). among tag x) (sym F.listed) ∙ h in
    unchanged F tag (name_there tag body F.entries F.may there) ok (some body) there

pub remove_nothing : RemoveNothing
remove_nothing room stated tag bytes ok name h =
    let F = front room stated ok bytes in
    unchanged F tag name ok none (ap (λ (x : List Entry). among tag x) (sym F.listed) ∙ h)

-- ---- refused as too long, and served

by_length : (d : Bool) (n m : ℕ) → leb n m ≡ d → (require d LongSheet (Ok n) ≡ Err LongSheet) ↔ (m < n)
by_length true n m e = (λ q. absurd (cc), λ h. absurd (omega (arith, leb-true n m e)))
by_length false n m e = (λ q. leb-false n m e, λ h. refl)

pub twenty : EditTwenty
unfolding edit_of
twenty room stated tag to f k h = rw (f, k, le-leb _ _ h) (by_length (leb (length (sheet_after room stated tag to)) (length room)) (length (sheet_after room stated tag to)) (length room) refl)

pub room_enough : EditRoomEnough
room_enough room stated tag to bytes l ok name h =
    let P : Passed room stated tag (size_of to) = record { holds = ok; name = name; short = h } in
    ap is_ok (is-done room stated tag to P (omega (arith, now-most (front room stated ok bytes) tag to P)))

pub remove_served : RemoveServed
remove_served room stated tag bytes ok name =
    ap is_ok (is-done room stated tag none (record { holds = ok; name = name; short = omega arith }) (removed-fits (front room stated ok bytes) tag))
