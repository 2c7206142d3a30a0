-- A room with a sheet at its front: the old one and all behind it, in parts. Assumes nothing.
use mathlib.Core.Path.{◌≡◌, sym, ap, ◌∙◌}
use mathlib.Core.Bool.{true, and-eq-true_iff}
use mathlib.Core.List.{List, ◌++◌}
use mathlib.Core.Option.{Option}
use Prim.Native.Nat.{ℕ, zero, suc, ◌+◌, ◌*◌, ◌-◌, max, ◌≤◌, ◌<◌}
use native.Mathlib.Omega.{arith}
use lib.Dec.{leb}
use lib.ListN.{length, get_or, take, drop, replicate, take-append-drop}
use lib.Seq.{drop-append-add, get_or-take, length-take-le}
use borrow.Author.Tests.{leb-true}
use Rattle.rooms.specs.Rooms.{Bytes}
use Rattle.rooms.proofs.Rooms.{first_bytes}
use Rattle.sheet.specs.Sheet.{Entry, old, sheet_of, is_sheet, entries_in}
use Rattle.sheet.proofs.Entries.{sheet_size}
use Rattle.sheet_forms.specs.Forms.{listable}
use Rattle.sheet_forms.proofs.Entries.{few_entries, read_back}
use Rattle.sheet_forms.proofs.Forms.{old_proper, exactly}
use Rattle.sheet_edit.specs.Edit.{edited, holds_sheet, sheet_after, room_with}

-- ---- zeros, and what stood there

pub drop_zeros : (g k : ℕ) (w : List ℕ) → drop k (replicate g 0 ++ w) ≡ replicate (g - k) 0 ++ drop (k - g) w
drop_zeros zero k w =
    let z : 0 - k ≡ 0 = omega arith in
    let y : k - 0 ≡ k = omega arith in
    rw (z, y)
drop_zeros (suc g) zero w =
    let z : suc g - 0 ≡ suc g = omega arith in
    let y : 0 - suc g ≡ 0 = omega arith in
    rw (z, y)
drop_zeros (suc g) (suc k) w =
    let z : suc g - suc k ≡ g - k = omega arith in
    let y : suc k - suc g ≡ k - g = omega arith in
    rw (z, y) (drop_zeros g k w)

pub room_split : (s S w : List ℕ) (stated : ℕ) → stated ≡ length S → room_with s stated (S ++ w) ≡ s ++ (replicate (stated - length s) 0 ++ drop (length s - stated) w)
unfolding room_with
room_split s S w stated h =
    let z : max stated (length s) ≡ length S + (length s - stated) = omega arith in
    rw (z, drop-append-add S w (length s - stated))

-- ---- the front

-- the sheet at a room's front, and its entries
pub record Front (room : List ℕ) (stated : ℕ) : Type 0 where
  pub entries : List Entry
  pub may : listable old.kinds 0 entries ≡ true
  pub listed : entries_in (take stated room) ≡ entries
  pub front_is : take stated room ≡ sheet_of old entries
  pub size : stated ≡ length (sheet_of old entries)
  pub reach : stated ≤ length room
  pub few : length entries ≤ 4

module _ (room : List ℕ) (stated : ℕ) (ok : holds_sheet room stated ≡ true) where
  both : (leb stated (length room) ≡ true) × (is_sheet (take stated room) ≡ true)
  unfolding holds_sheet
  both = (and-eq-true_iff (leb stated (length room)) (is_sheet (take stated room))).0 ok

  pub front : Bytes room → Front room stated
  unfolding old
  front bytes =
      let w = (exactly old old_proper (take stated room) (first_bytes stated room bytes)).0 both.1 in
      let h : stated ≤ length room = leb-true stated (length room) both.0 in
      let few : length w.entries ≤ 4 = few_entries old.kinds w.entries w.may in
      record {
        entries = w.entries;
        may = w.may;
        listed = ap entries_in w.is ∙ read_back old old_proper w.entries (omega arith);
        front_is = w.is;
        size = sym (length-take-le stated room h) ∙ ap length w.is;
        reach = h;
        few = few;
      }

module _ {room : List ℕ} {stated : ℕ} (F : Front room stated) where
  pub room_is : room ≡ sheet_of old F.entries ++ drop stated room
  room_is = sym (take-append-drop stated room) ∙ ap (λ (s : List ℕ). s ++ drop stated room) F.front_is

  -- the first byte is how many entries there are
  pub count_is : get_or room 0 0 ≡ length F.entries
  unfolding sheet_of old
  count_is =
      let pos : 0 < stated = omega (arith, F.size, sheet_size old F.entries) in
      sym (get_or-take stated room 0 0 pos) ∙ ap (λ (s : List ℕ). get_or s 0 0) F.front_is ∙ omega arith

  pub some_bytes : 0 < length room
  some_bytes = omega (arith, F.size, F.reach, sheet_size old F.entries)

  pub rows_in : 1 + 4 * length F.entries ≤ length (take stated room)
  rows_in = omega (arith, ap length F.front_is, sheet_size old F.entries)

  -- the sheet after an edit, of the front's entries
  pub sheet_is : (tag : ℕ) (to : Option (List ℕ)) → sheet_after room stated tag to ≡ sheet_of old (edited tag to F.entries)
  sheet_is tag to = ap (λ (x : List Entry). sheet_of old (edited tag to x)) F.listed
