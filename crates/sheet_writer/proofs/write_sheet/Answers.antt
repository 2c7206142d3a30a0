-- `write_sheet` meets its contract: past each call there is place for the entries that are left. Assumes nothing.
use denote.Bor.{Bor}
use Rattle.std.specs.Prelude
use Rattle.std.proofs.Common.{◌≡◌, ◌⊎◌, inl, inr, cond, false, true, is_some, Some, None, count_by, length, ℕ, ◌<◌, ◌+◌, ◌*◌, List, [], ◌∷◌, ◌++◌, Bool, sym, refl, ◌∙◌, arith}
use Rattle.std.proofs.Math.Option.{Option}
use lib.ListN.{set}
use Rattle.sheet.proofs.Shift.{four_each}
use Rattle.sheet.specs.Sheet.{Entry}
use Rattle.sheet_writer.specs.declared.Cursor.{Cursor}
use Rattle.sheet_writer.specs.Writing.{given, entry_if, choice, short, writable}
use Rattle.sheet_writer.specs.Laying.{Place, Put}
use Rattle.refusals.specs.declared.Refusal.TheVariants.{NoFit}
use Rattle.sheet_writer.proofs.Laid.{choice-short, choice-count, choice-few, Owed, refused, allowed, place-all, place-past, joined, written}
use Rattle.sheet_writer.proofs.write_sheet.Goals as goal

module _ (b c d e : Option (List ℕ)) (room : List ℕ) where
  -- the entries, from each tag on
  abbrev from23 : List Entry
  from23 = entry_if 0x23 e

  abbrev from22 : List Entry
  from22 = entry_if 0x22 d ++ from23

  abbrev from21 : List Entry
  from21 = entry_if 0x21 c ++ from22

  abbrev from20 : List Entry
  from20 = choice b c d e

  module _ (ok : writable from20 room ≡ true) (n : ℕ) (count : n ≡ length from20) where
    abbrev start : Cursor
    start = record { row = 1; end = 1 + 4 * n }

    -- there is place for them, and past each call for those that are left
    all : {m20 m21 m22 m23 : List ℕ} {at21 at22 at23 last : Cursor}
        → Put (set room 0 n) start (entry_if 0x20 b) m20 at21 → Put m20 at21 (entry_if 0x21 c) m21 at22 → Put m21 at22 (entry_if 0x22 d) m22 at23 → Put m22 at23 (entry_if 0x23 e) m23 last
        → Owed from20 room (Prelude.Ok last.end) m23
    all {m20} {m21} {m22} {m23} {at21} {at22} {at23} {last} one two three four =
        let p20 : Place (set room 0 n) start from20 = place-all from20 room (choice-few b c d e) ok n count in
        let p21 : Place m20 at21 from21 = place-past (set room 0 n) start (entry_if 0x20 b) from21 p20 one in
        let p22 : Place m21 at22 from22 = place-past m20 at21 (entry_if 0x21 c) from22 p21 two in
        written from20 room (choice-few b c d e) ok n count
        (joined (set room 0 n) start (entry_if 0x20 b) from21 p20 one
        (joined m20 at21 (entry_if 0x21 c) from22 p21 two
        (joined m21 at22 (entry_if 0x22 d) from23 p22 three four)))

  refusal : {all : Bool} → all ≡ short from20 → (all ≡ false) ⊎ ((all ≡ true) × (length room < 145)) → Owed from20 room (Prelude.Err NoFit) room
  refusal is (inl long) = refused from20 room (inl (sym is ∙ long))
  refusal is (inr small) = refused from20 room (inr small.1)

pub returns-then-not-all_short : goal.returns-then-not-all_short
returns-then-not-all_short c =
    let a = c.args in
    let r = refusal (given a.body20) (given a.body21) (given a.body22) (given a.body23) a.room.now c.all_short.ensures c.then-not-all_short.either in
    record { value = r.0; room_after = r.1 }

pub returns : goal.returns
returns c =
    let a = c.args in
    let es : List Entry = choice (given a.body20) (given a.body21) (given a.body22) (given a.body23) in
    let small = sym c.all_short.ensures ∙ c.if-not-all_short.false in
    let ok = allowed es a.room.now small c.if-room-lt145.false in
    let e = four_each c.count_of-n.result (omega (arith, c.count_of-n.ensures, choice-few (given a.body20) (given a.body21) (given a.body22) (given a.body23))) in
    let r = all (given a.body20) (given a.body21) (given a.body22) (given a.body23) a.room.now ok _ c.count_of-n.ensures (rw e at c.put_entry-past20.ensures) c.put_entry-past21.ensures c.put_entry-past22.ensures c.put_entry-past23.ensures in
    record { value = r.0; room_after = r.1 }
