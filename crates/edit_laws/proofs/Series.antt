-- The theorems on several edits: a series leaves the sheet of the final bodies, as the writer gives it. Assumes nothing.
use mathlib.Core.Path.{◌≡◌, refl, sym, ap, subst, ◌∙◌}
use mathlib.Core.Bool.{Bool, true, false, cond, and-eq-true_iff}
use mathlib.Core.List.{List, [], ◌∷◌}
use mathlib.Core.Option.{Option}
use Prim.Native.Nat.{ℕ, max, ◌≤◌}
use native.Mathlib.Omega.{arith}
use lib.Dec.{eqb, leb}
use lib.ListN.{length, drop}
use lib.Seq.{take-append_seam}
use borrow.Author.Tests.{eqb-true, le-leb, leb-true}
use Rattle.std.specs.Prelude.{Result, Ok, Err}
use Rattle.std.specs.Result.{is_ok}
use Rattle.refusals.specs.declared.Refusal.{Refusal}
use Rattle.rooms.specs.Rooms.{Bytes}
use Rattle.sheet.specs.Sheet.{Entry, old, sheet_of, is_sheet, entries_in, among, body_in}
use Rattle.sheet_writer.specs.Writing.{choice, short, writable, sheet_wrote, sheet_room}
use Rattle.sheet_writer.proofs.Laid.{choice-few}
use Rattle.sheet_forms.specs.Forms.{listable}
use Rattle.sheet_laws.specs.Written.{given_to}
use Rattle.sheet_laws.proofs.Choices.{chosen, body_back}
use Rattle.sheet_forms.proofs.Entries.{few_entries}
use Rattle.sheet_forms.proofs.Forms.{old_proper, one_choice}
use Rattle.sheet_edit.specs.Edit.{edited, holds_sheet, sheet_after, is_name, size_of, edit_of, room_with, room_after}
use Rattle.sheet_edit.proofs.Answers.{Passed, done, is-done, may_stand, now-most}
use Rattle.sheet_edit.proofs.After.{edited_may}
use Rattle.sheet_edit.proofs.Rooms.{Front, front, sheet_is}
use Rattle.edit_laws.specs.Series.{Edit, Held, is_served, is_fit, told, next, after, AllServed, AllFit, longest, Bodies, with_edit, finally, choice_of, sheet_in, end_bodies}
use Rattle.edit_laws.specs.Laws.{SeriesLeaves, SeriesAfresh, SeriesServed, EditsCommute}
use Rattle.edit_laws.proofs.Entries.{either, among_edited}
use Rattle.edit_laws.proofs.Rooms.{compose, up_to, own_room, front_of, with_length, listed, in-front}

-- ---- entries that may be listed are the writer's choice of what they have

-- a choice depends on what the four tags have
choice_by : (f g : Bodies) → ((tag : ℕ) → f tag ≡ g tag) → choice_of f ≡ choice_of g
choice_by f g h = rw (h 0x20, h 0x21, h 0x22, h 0x23)

record Chosen (L : List Entry) : Type 0 where
  pub is : L ≡ choice_of (λ tag. among tag L)
  pub small : short L ≡ true

as_choice : (L : List Entry) → listable old.kinds 0 L ≡ true → Chosen L
as_choice L g =
    let W = chosen (sheet_of old L) (record { entries = L; may = g; is = refl }) in
    let few : length L ≤ length old.kinds = few_entries old.kinds L g in
    let C : List Entry = choice W.body20 W.body21 W.body22 W.body23 in
    let few-chosen : length C ≤ 4 = choice-few W.body20 W.body21 W.body22 W.body23 in
    let is : L ≡ C = one_choice old old_proper L C (omega (arith, old_proper.few)) (omega arith) W.is in
    let has : (tag : ℕ) → given_to tag W.body20 W.body21 W.body22 W.body23 ≡ among tag L =
    λ tag. sym (body_back tag W.body20 W.body21 W.body22 W.body23) ∙ ap (λ (x : List Entry). body_in (sheet_of old x) tag) (sym is) ∙ ap (λ (x : List Entry). among tag x) (listed L g) in
    record {
      is = is ∙ choice_by (λ tag. given_to tag W.body20 W.body21 W.body22 W.body23) _ has;
      small = ap short is ∙ W.small;
    }

-- ---- what an edit tells

served_as : (r : Result ℕ Refusal) → is_ok r ≡ true → (new : ℕ) × (r ≡ Ok new)
served_as (Ok new) q = (new, refl)
served_as (Err reason) q = absurd (cc)

none_told : (r : Result ℕ Refusal) (stated : ℕ) → is_ok r ≡ false → told r stated ≡ stated
none_told (Ok new) stated q = absurd (cc)
none_told (Err reason) stated q = refl

-- ---- a room on the way

-- the room holds the sheet of entries that have certain bodies; behind it zeros up to `top`, then what stood there
record Holds (h : Held) (had : Bodies) (top : ℕ) (room₀ : List ℕ) : Type 0 where
  pub entries : List Entry
  pub may : listable old.kinds 0 entries ≡ true
  pub has : (tag : ℕ) → among tag entries ≡ had tag
  pub stated_is : h.stated ≡ length (sheet_of old entries)
  pub reach : h.stated ≤ top
  pub room_is : h.room ≡ room_with (sheet_of old entries) top room₀

-- its front, as an edit finds it
module _ (h : Held) (had : Bodies) (top : ℕ) (room₀ : List ℕ) (H : Holds h had top room₀) where
  abbrev S : List ℕ
  S = sheet_of old H.entries

  holds : holds_sheet h.room h.stated ≡ true
  holds = rw (H.room_is, H.stated_is) (in-front H.entries H.may room₀ top)

  front_is : sheet_in h ≡ S
  front_is = rw (H.room_is, H.stated_is) (front_of S room₀ top)

  as-front : Front h.room h.stated
  unfolding old holds_sheet
  as-front = record {
    entries = H.entries;
    may = H.may;
    listed = ap entries_in front_is ∙ listed H.entries H.may;
    front_is = front_is;
    size = H.stated_is;
    reach = leb-true _ _ ((and-eq-true_iff (leb h.stated (length h.room)) (is_sheet (sheet_in h))).0 holds).0;
    few = few_entries old.kinds H.entries H.may;
  }

module _ (e : Edit) (h : Held) (had : Bodies) (top : ℕ) (room₀ : List ℕ) (H : Holds h had top room₀) where
  abbrev now : List Entry
  now = edited e.tag e.to H.entries

  new-sheet : sheet_after h.room h.stated e.tag e.to ≡ sheet_of old now
  unfolding as-front
  new-sheet = sheet_is (as-front h had top room₀ H) e.tag e.to

  refused : is_served e h ≡ false → (next e h).room ≡ h.room
  unfolding room_after
  refused q = rw q

  abbrev Next : Bool → Type 0
  Next b = Holds (next e h) (cond b (with_edit e had) had) (max top (next e h).stated) room₀

  step_by : (b : Bool) → is_served e h ≡ b → Next b
  step_by true q =
      let w = served_as (edit_of h.room h.stated e.tag e.to) q in
      let D = done h.room h.stated e.tag e.to w.1 in
      let t : List ℕ = sheet_of old now in
      let size : (next e h).stated ≡ length t = rw w.1 (D.length-is ∙ ap length new-sheet) in
      let z : max top (length (S h had top room₀ H)) ≡ top = omega (arith, H.reach, H.stated_is) in
      let over : room_with (sheet_after h.room h.stated e.tag e.to) h.stated h.room ≡ room_with t (max top (length (S h had top room₀ H))) room₀ =
      ap (λ (x : List ℕ). room_with x h.stated h.room) new-sheet ∙ ap (λ (k : ℕ). room_with t k h.room) H.stated_is ∙ ap (λ (x : List ℕ). room_with t (length (S h had top room₀ H)) x) H.room_is ∙ compose (S h had top room₀ H) t room₀ top in
      record {
        entries = now;
        may = edited_may old.kinds 0 e.tag e.to H.entries H.may (omega arith) (may_stand e.tag e.to D.tests.name D.tests.short);
        has = λ tag. among_edited old.kinds 0 tag e.tag e.to H.entries H.may ∙ ap (λ (o : Option (List ℕ)). cond (eqb e.tag tag) e.to o) (H.has tag);
        stated_is = size;
        reach = omega arith;
        room_is = D.room_is ∙ over ∙ ap (λ (k : ℕ). room_with t k room₀) z ∙ up_to t room₀ top ∙ ap (λ (k : ℕ). room_with t (max top k) room₀) (sym size);
      }
  step_by false q =
      let same : (next e h).stated ≡ h.stated = none_told (edit_of h.room h.stated e.tag e.to) h.stated q in
      let z : max top (next e h).stated ≡ top = omega (arith, H.reach) in
      record { entries = H.entries; may = H.may; has = H.has; stated_is = same ∙ H.stated_is; reach = omega arith; room_is = refused q ∙ H.room_is ∙ ap (λ (k : ℕ). room_with (S h had top room₀ H) k room₀) (sym z) }

  step : Next (is_served e h)
  step = step_by (is_served e h) refl

-- ---- the series

least : (es : List Edit) (h : Held) → h.stated ≤ longest es h
least [] h = omega arith
least (e ∷ es) h = omega arith

series : (es : List Edit) (h : Held) (had : Bodies) (top : ℕ) (room₀ : List ℕ) → Holds h had top room₀ → Holds (after es h) (finally es h had) (max top (longest es h)) room₀
series [] h had top room₀ H = subst (λ (k : ℕ). Holds h had k room₀) (omega (arith, H.reach)) H
series (e ∷ es) h had top room₀ H =
    subst (λ (k : ℕ). Holds (after es (next e h)) (finally es (next e h) (cond (is_served e h) (with_edit e had) had)) k room₀)
    (omega (arith, H.reach, least es (next e h)))
    (series es (next e h) (cond (is_served e h) (with_edit e had) had) (max top (next e h).stated) room₀ (step e h had top room₀ H))

-- where it begins: any room whose front is a sheet
begin : (h : Held) → Bytes h.room → holds_sheet h.room h.stated ≡ true → Holds h (body_in (sheet_in h)) h.stated h.room
begin h bytes ok =
    let F = front h.room h.stated ok bytes in
    record {
      entries = F.entries;
      may = F.may;
      has = λ tag. ap (λ (x : List Entry). among tag x) (sym F.listed);
      stated_is = F.size;
      reach = omega arith;
      room_is = sym (own_room F);
    }

module _ (es : List Edit) (h : Held) (bytes : Bytes h.room) (ok : holds_sheet h.room h.stated ≡ true) where
  ended : Holds (after es h) (end_bodies es h) (longest es h) h.room
  ended = subst (λ (k : ℕ). Holds (after es h) (end_bodies es h) k h.room) (omega (arith, least es h)) (series es h (body_in (sheet_in h)) h.stated h.room (begin h bytes ok))

  end-choice : ended.entries ≡ choice_of (end_bodies es h)
  end-choice = (as_choice ended.entries ended.may).is ∙ choice_by _ _ ended.has

  abbrev written : List ℕ
  written = sheet_of old (choice_of (end_bodies es h))

  end-sheet : sheet_of old ended.entries ≡ written
  end-sheet = ap (sheet_of old) end-choice

  end-stated : (after es h).stated ≡ length written
  end-stated = ended.stated_is ∙ ap length end-sheet

  end-room : (after es h).room ≡ room_with written (longest es h) h.room
  end-room = ended.room_is ∙ ap (λ (s : List ℕ). room_with s (longest es h) h.room) end-sheet

  end-front : sheet_in (after es h) ≡ written
  end-front = rw (end-room, end-stated) (front_of written h.room (longest es h))

  end-small : short (choice_of (end_bodies es h)) ≡ true
  end-small = ap short (sym end-choice) ∙ (as_choice ended.entries ended.may).small

pub leaves : SeriesLeaves
leaves es h bytes ok = (end-stated es h bytes ok, end-room es h bytes ok)

pub afresh : SeriesAfresh
unfolding sheet_wrote sheet_room writable
afresh es h fresh bytes ok room =
    let w : List ℕ = written es h bytes ok in
    rw (end-small es h bytes ok, le-leb _ _ room)
    (rw (end-stated es h bytes ok), rw (end-front es h bytes ok, end-stated es h bytes ok) (take-append_seam w (drop (length w) fresh)))

-- ---- a room that is long enough

module _ (e : Edit) (h : Held) (had : Bodies) (top : ℕ) (room₀ : List ℕ) (H : Holds h had top room₀) (fit : is_fit e ≡ true) (l : 145 ≤ length h.room) where
  answered : edit_of h.room h.stated e.tag e.to ≡ Ok (length (sheet_after h.room h.stated e.tag e.to))
  answered =
      let t = (and-eq-true_iff (is_name e.tag) (leb (size_of e.to) 32)).0 fit in
      let P : Passed h.room h.stated e.tag (size_of e.to) = record { holds = holds h had top room₀ H; name = t.0; short = leb-true _ _ t.1 } in
      is-done h.room h.stated e.tag e.to P (omega (arith, now-most (as-front h had top room₀ H) e.tag e.to P))

  kept-length : length (next e h).room ≡ length h.room
  kept-length =
      let D = done h.room h.stated e.tag e.to answered in
      ap length D.room_is ∙ with_length (sheet_after h.room h.stated e.tag e.to) h.room h.stated (as-front h had top room₀ H).reach D.fits

on_served : (es : List Edit) (h : Held) (had : Bodies) (top : ℕ) (room₀ : List ℕ) → Holds h had top room₀ → 145 ≤ length h.room → AllFit es → AllServed es h
on_served [] h had top room₀ H l f = tt
on_served (e ∷ es) h had top room₀ H l f = (
  ap is_ok (answered e h had top room₀ H f.0 l),
  on_served es (next e h) (cond (is_served e h) (with_edit e had) had) (max top (next e h).stated) room₀ (step e h had top room₀ H) (omega (arith, kept-length e h had top room₀ H f.0 l)) f.1,
)

pub always_served : SeriesServed
always_served es h bytes ok l f = on_served es h (body_in (sheet_in h)) h.stated h.room (begin h bytes ok) l f

-- ---- two edits

both : (d e : Edit) (h : Held) → is_served d h ≡ true → is_served e (next d h) ≡ true → (tag : ℕ) → end_bodies (d ∷ e ∷ []) h tag ≡ with_edit e (with_edit d (body_in (sheet_in h))) tag
both d e h p q tag = rw (q, p)

either_order : (d e : Edit) (had : Bodies) → (d.tag ≡ e.tag → ⊥) → (tag : ℕ) → with_edit e (with_edit d had) tag ≡ with_edit d (with_edit e had) tag
either_order d e had differ tag = either (eqb e.tag tag) (eqb d.tag tag) e.to d.to (had tag) (λ x y. differ (eqb-true d.tag tag y ∙ sym (eqb-true e.tag tag x)))

pub commute : EditsCommute
commute d e h bytes ok differ p q =
    let same : sheet_of old (choice_of (end_bodies (d ∷ e ∷ []) h)) ≡ sheet_of old (choice_of (end_bodies (e ∷ d ∷ []) h)) = ap (sheet_of old) (choice_by _ _ (λ tag. both d e h p.0 p.1.0 tag ∙ either_order d e (body_in (sheet_in h)) differ tag ∙ sym (both e d h q.0 q.1.0 tag))) in (
      end-stated (d ∷ e ∷ []) h bytes ok ∙ ap length same ∙ sym (end-stated (e ∷ d ∷ []) h bytes ok),
      end-front (d ∷ e ∷ []) h bytes ok ∙ same ∙ sym (end-front (e ∷ d ∷ []) h bytes ok),
    )
