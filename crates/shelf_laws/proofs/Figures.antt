-- A report and its bytes.
-- Assumes nothing.
use mathlib.Core.Path.{◌≡◌, refl, sym, ap, ◌∙◌}
use mathlib.Core.Bool.{Bool, true, false}
use mathlib.Core.List.{List, [], ◌∷◌, ◌++◌, append-nil}
use Prim.Native.Nat.{ℕ, ◌<◌}
use native.Mathlib.Omega.{arith}
use lib.Dec.{ltb}
use lib.ListN.{length}
use Rattle.std.specs.Prelude.{Option, Some, None, Result, Ok, Err, IsOk, is_some, if◌then◌else◌}
use Rattle.numbers.specs.Numbers.{Within, flag_of, flagged}
use Rattle.numbers.proofs.Numbers.{numbers_then}
use Rattle.refusals.specs.declared.Refusal.{Refusal}
use Rattle.refusals.specs.declared.Refusal.TheVariants.{SmallRoom, WrongForm}
use Rattle.rooms.specs.Rooms.{placed}
use Rattle.shelf.specs.Shelf.{lowest_from, report_of}
use Rattle.shelf.specs.declared.Row.{Row}
use Rattle.shelf_row.specs.Rows.{shown}
use Rattle.shelf_row.specs.declared.Figures.{Figures}
use Rattle.shelf_row.specs.declared.Lowest.{Lowest}
use Rattle.shelf_table.specs.Table.{rows_in, is_ragged, figures_widths, figures_numbers, figures_bytes, bytes_told, room_with}
use Rattle.shelf_laws.specs.Promises.{OfWords, Words}
use Rattle.shelf_laws.specs.Tables.{figures_from, figures_in, SixteenBytes, FiguresBack, FiguresTell, RoomShows}
use Rattle.shelf_laws.proofs.Cases.{served}
use Rattle.shelf_laws.proofs.Totals.{totals_fit, counts_fit}
use Rattle.shelf_laws.proofs.Lowest.{all_at, lowest_row}
use Rattle.shelf_laws.proofs.Tables.{rows_of_words}

pub sixteen_bytes : SixteenBytes
sixteen_bytes f = refl

-- ---- each number is within its width

lowest_words : (rows : List Row) (f : Figures) → Words rows → report_of rows ≡ Ok f → ((shown f.lowest).remaining < 65536) × ((shown f.lowest).full < 65536)
unfolding lowest_from
lowest_words [] f w h = rw (served [] f h).1 (omega arith, omega arith)
lowest_words (r ∷ rows) f w h =
    let l = lowest_row (r ∷ rows) f h (omega arith) in
    let o = all_at OfWords (r ∷ rows) w l.0 l.2.within in
    rw l.1 (o.remaining, o.full)

flag_fits : (b : Bool) → flag_of b < 256
flag_fits true = omega arith
flag_fits false = omega arith

within : (rows : List Row) (f : Figures) → Words rows → report_of rows ≡ Ok f → Within figures_widths (figures_numbers f)
within rows f w h =
    let t = totals_fit rows f h w in
    let c = counts_fit rows f h in
    let l = lowest_words rows f w h in
    (omega arith, (omega arith, (omega arith, (flag_fits (is_some f.lowest), (l.0, (l.1, (omega arith, (omega arith, tt))))))))

-- ---- read back

lowest_back : (l : Option Lowest)
    → (if flagged (flag_of (is_some l)) then Some (record { remaining = (shown l).remaining; full = (shown l).full; place = (shown l).place }) else None) ≡ l
lowest_back (Some l) = refl
lowest_back None = refl

figures_then : (f : Figures) (l : List ℕ) {t : List ℕ} → Within figures_widths (figures_numbers f) → l ≡ figures_bytes f ++ t → figures_in l ≡ f
figures_then f l w e =
    let b = numbers_then figures_widths (figures_numbers f) l 0 w e in
    ap figures_from b.0
    ∙ (λ i. record { packs = f.packs; remaining = f.remaining; full = f.full; lowest = lowest_back f.lowest i; low = f.low })

pub figures_back : FiguresBack
figures_back rows f w h = figures_then f (figures_bytes f) (within rows f w h) (sym (append-nil (figures_bytes f)))

pub figures_tell : FiguresTell
figures_tell xs ys f g u v h k e = sym (figures_back xs f u h) ∙ ap figures_in e ∙ figures_back ys g v k

-- ---- in a room

pub room_shows : RoomShows
room_shows table room b h = by (ltb (length room) 16) (is_ragged table) (report_of (rows_in table)) refl h
  where
    by : (small ragged : Bool) (r : Result Figures Refusal) → report_of (rows_in table) ≡ r
        → IsOk (bytes_told (if small then Err SmallRoom else (if ragged then Err WrongForm else r)))
        → r ≡ Ok (figures_in (room_with (if small then Err SmallRoom else (if ragged then Err WrongForm else r)) room))
    by true ragged r e k = absurd (cc)
    by false true r e k = absurd (cc)
    by false false (Ok f) e k = ap Ok (sym (figures_then f (placed (figures_bytes f) room) (within (rows_in table) f (rows_of_words table b) e) refl))
    by false false (Err reason) e k = absurd (cc)
