-- Rooms that hold a sheet, and what a served edit makes of them. Assumes nothing.
use mathlib.Core.Path.{◌≡◌, refl, sym, ap, ◌∙◌}
use mathlib.Core.Bool.{true}
use mathlib.Core.List.{List, ◌++◌, append_assoc}
use Prim.Native.Nat.{ℕ, ◌+◌, ◌-◌, max, ◌≤◌}
use native.Mathlib.Omega.{arith}
use lib.ListN.{length, take, drop, replicate, length-append, length-drop, length-replicate, replicate-append-replicate}
use lib.Seq.{drop-drop, take-append_seam}
use borrow.Author.Tests.{le-leb}
use Rattle.sheet.specs.Sheet.{Entry, old, sheet_of, entries_in}
use Rattle.sheet_forms.specs.Forms.{listable}
use Rattle.sheet_forms.proofs.Entries.{few_entries, read_back}
use Rattle.sheet_forms.proofs.Forms.{old_proper, is-sheet}
use Rattle.sheet_edit.specs.Edit.{holds_sheet, room_with}
use Rattle.sheet_edit.proofs.Rooms.{drop_zeros, room_split, Front, room_is}

-- ---- rooms over rooms

gaps : (top a b : ℕ) → (a - b + (top - a - (b - a)) ≡ max top a - b) × (max top a + (b - a - (top - a)) ≡ max (max top a) b)
gaps top a b = (omega arith, omega arith)

pub compose : (s t room : List ℕ) (top : ℕ) → room_with t (length s) (room_with s top room) ≡ room_with t (max top (length s)) room
unfolding room_with
compose s t room top =
    let a : ℕ = length s in
    let b : ℕ = length t in
    let rest : List ℕ = drop (max top a) room in
    let zs : List ℕ = replicate (a - b) 0 in
    let ys : List ℕ = replicate (top - a - (b - a)) 0 in
    let g = gaps top a b in
    let z : drop (b - a - (top - a)) rest ≡ drop (max (max top a) b) room = drop-drop (b - a - (top - a)) (max top a) room ∙ ap (λ (i : ℕ). drop i room) g.1 in
    let y : zs ++ ys ≡ replicate (max top a - b) 0 = replicate-append-replicate (a - b) (top - a - (b - a)) 0 ∙ ap (λ (i : ℕ). replicate i 0) g.0 in
    room_split t s (replicate (top - a) 0 ++ rest) a refl
    ∙ ap (λ (x : List ℕ). t ++ (zs ++ x)) (drop_zeros (top - a) (b - a) rest ∙ ap (λ (x : List ℕ). ys ++ x) z)
    ∙ ap (λ (x : List ℕ). t ++ x) (sym (append_assoc zs ys (drop (max (max top a) b) room)) ∙ ap (λ (x : List ℕ). x ++ drop (max (max top a) b) room) y)

-- zeros up to a place within the sheet are none
pub up_to : (s room : List ℕ) (top : ℕ) → room_with s top room ≡ room_with s (max top (length s)) room
unfolding room_with
up_to s room top =
    let z : max top (length s) - length s ≡ top - length s = omega arith in
    let y : max (max top (length s)) (length s) ≡ max top (length s) = omega arith in
    rw (z, y)

-- a room is the one with the sheet that it holds
pub own_room : {room : List ℕ} {stated : ℕ} (F : Front room stated) → room_with (sheet_of old F.entries) stated room ≡ room
own_room {room} {stated} F =
    let s : List ℕ = sheet_of old F.entries in
    let z : stated - length s ≡ 0 = omega (arith, F.size) in
    let y : length s - stated ≡ 0 = omega (arith, F.size) in
    ap (λ (x : List ℕ). room_with s stated x) (room_is F) ∙ room_split s s (drop stated room) stated F.size ∙ rw (z, y) (sym (room_is F))

pub front_of : (s room : List ℕ) (top : ℕ) → take (length s) (room_with s top room) ≡ s
unfolding room_with
front_of s room top = take-append_seam s (replicate (top - length s) 0 ++ drop (max top (length s)) room)

pub with_length : (s room : List ℕ) (top : ℕ) → top ≤ length room → length s ≤ length room → length (room_with s top room) ≡ length room
unfolding room_with
with_length s room top h k =
    let zs : List ℕ = replicate (top - length s) 0 in
    let rest : List ℕ = drop (max top (length s)) room in
    omega (arith, length-append s (zs ++ rest), length-append zs rest, length-replicate {A = ℕ} (top - length s) 0, length-drop (max top (length s)) room)

-- ---- a sheet at the front

module _ (L : List Entry) (g : listable old.kinds 0 L ≡ true) where
  pub listed : entries_in (sheet_of old L) ≡ L
  listed = read_back old old_proper L (omega (arith, few_entries old.kinds L g, old_proper.few))

  pub in-front : (room : List ℕ) (top : ℕ) → holds_sheet (room_with (sheet_of old L) top room) (length (sheet_of old L)) ≡ true
  unfolding holds_sheet room_with
  in-front room top =
      let s : List ℕ = sheet_of old L in
      let w : List ℕ = replicate (top - length s) 0 ++ drop (max top (length s)) room in
      rw (le-leb (length s) (length (s ++ w)) (omega (arith, length-append s w)), take-append_seam s w) (is-sheet old old_proper L g)
