-- Over any form: bytes are a sheet exactly when they are that of some entries that the form may list; read back; one choice. Assumes nothing.
use mathlib.Core.Path.{◌≡◌, refl, sym, ap, ◌∙◌}
use mathlib.Core.Bool.{true}
use mathlib.Core.List.{List, [], ◌∷◌, ◌++◌}
use Prim.Native.Nat.{ℕ, zero, suc, ◌+◌, ◌*◌, ◌-◌, ◌/◌, ◌%◌, ◌≤◌, ◌<◌}
use native.Mathlib.Omega.{arith}
use lib.ListN.{length, get_or, take, drop, length-append, take-append-drop, length-drop, drop_of_length-le}
use lib.Seq.{drop-cons, drop-drop, length-take-le}
use borrow.Author.Tests.{lt-ltb, le-leb, eq-eqb, eqb-true}
use Rattle.rooms.proofs.Rooms.{byte_at}
use Rattle.rooms.specs.Rooms.{Bytes, between}
use Rattle.sheet.specs.Sheet.{Entry, rows_of, bodies_of, TagKind, Form, old, sheet_of, tag_at, length_at, offset_at, rows_listed, row_ok, rows_ok, is_sheet_of, entries_from, entries_in}
use Rattle.sheet.proofs.Rows.{RowRight, first_right, reach, contents}
use Rattle.sheet.proofs.Entries.{sheet_size}
use Rattle.sheet_forms.specs.Forms.{Proper, listable}
use Rattle.sheet_forms.specs.Laws.{SheetExactly, SheetOneChoice, SheetAllowed}
use Rattle.sheet_forms.proofs.Entries.{first, cons, among_allowed, few_entries, row, read_back}

pub old_proper : Proper old
unfolding old
old_proper = record { marks = refl; few = omega arith }

-- ---- the sheet of entries that may be listed is a sheet

rows-of : (ks : List TagKind) (es : List Entry) (p r s : List ℕ) (low end : ℕ) → listable ks low es ≡ true → s ≡ p ++ (rows_of end es ++ r)
    → end + length (bodies_of es) ≡ length s → rows_ok ks (length es) s (length p) low end ≡ true
unfolding rows_ok row_ok
rows-of ks [] p r s low end g w e = eq-eqb _ _ (let z : end + 0 ≡ end = omega arith in sym z ∙ e)
rows-of ks (x ∷ es) p r s low end g w e =
    let l : ℕ = length x.body in
    let k = first ks low x es g in
    let R = row s p r end x es w in
    let e' : end + l + length (bodies_of es) ≡ length s = omega (arith, length-append x.body (bodies_of es)) in
    let ih : rows_ok ks (length es) s (length p + 4) (x.tag + 1) (end + l) ≡ true = ap (λ (i : ℕ). rows_ok ks (length es) s i (x.tag + 1) (end + l)) (sym R.next) ∙ rows-of ks es R.before r s (x.tag + 1) (end + l) k.rest R.is e' in
    rw (R.tag, R.size, R.starts, le-leb low x.tag k.least, k.allowed, eq-eqb end end refl) ih

pub is-sheet : (f : Form) → Proper f → (es : List Entry) → listable f.kinds 0 es ≡ true → is_sheet_of f (sheet_of f es) ≡ true
unfolding is_sheet_of sheet_of
is-sheet f P es g =
    let n : ℕ = length es in
    let s : List ℕ = sheet_of f es in
    let m : length s ≡ 1 + 4 * n + length (bodies_of es) = sheet_size f es in
    let few : n ≤ length f.kinds = few_entries f.kinds es g in
    let c : (f.mark + n) % 128 ≡ n = omega (arith, P.marks, P.few) in
    let some_bytes : 0 < length s = omega arith in
    let fit : 1 + 4 * n ≤ length s = omega arith in
    rw (c, lt-ltb _ _ some_bytes, eq-eqb (f.mark + n) (f.mark + n) refl, le-leb _ _ few, le-leb _ _ fit)
    (rows-of f.kinds es ((f.mark + n) ∷ []) (bodies_of es) s 0 (1 + 4 * n) g refl (sym m))

-- ---- a sheet is the sheet of the entries that it lists

-- four elements more of a list
four_more : (s : List ℕ) (at n : ℕ) → at + 4 ≤ length s → take (4 * suc n) (drop at s) ≡ get_or s at 0 ∷ get_or s (at + 1) 0 ∷ get_or s (at + 2) 0 ∷ get_or s (at + 3) 0 ∷ take (4 * n) (drop (at + 4) s)
four_more s at n h =
    let z₁ : at + 1 ≡ suc at = omega arith in
    let z₂ : at + 2 ≡ suc (suc at) = omega arith in
    let z₃ : at + 3 ≡ suc (suc (suc at)) = omega arith in
    let z₄ : at + 4 ≡ suc (suc (suc (suc at))) = omega arith in
    let y : 4 * suc n ≡ suc (suc (suc (suc (4 * n)))) = omega arith in
    let d₀ : drop at s ≡ get_or s at 0 ∷ drop (suc at) s = drop-cons s at 0 (omega arith) in
    let d₁ : drop (suc at) s ≡ get_or s (suc at) 0 ∷ drop (suc (suc at)) s = drop-cons s (suc at) 0 (omega arith) in
    let d₂ : drop (suc (suc at)) s ≡ get_or s (suc (suc at)) 0 ∷ drop (suc (suc (suc at))) s = drop-cons s (suc (suc at)) 0 (omega arith) in
    let d₃ : drop (suc (suc (suc at))) s ≡ get_or s (suc (suc (suc at))) 0 ∷ drop (suc (suc (suc (suc at)))) s = drop-cons s (suc (suc (suc at))) 0 (omega arith) in
    let d : drop at s ≡ get_or s at 0 ∷ get_or s (suc at) 0 ∷ get_or s (suc (suc at)) 0 ∷ get_or s (suc (suc (suc at))) 0 ∷ drop (suc (suc (suc (suc at)))) s = cc in
    rw (y, d, z₁, z₂, z₃, z₄)

entries_count : (n : ℕ) (s : List ℕ) (at : ℕ) → length (entries_from n s at) ≡ n
unfolding entries_from
entries_count zero s at = refl
entries_count (suc n) s at = ap suc (entries_count n s (at + 4))

-- the n rows from `at` on, with bodies from `end` on, are those of the entries that they list
record Read (ks : List TagKind) (s : List ℕ) (es : List Entry) (n at low end : ℕ) : Type 0 where
  pub rows : Bytes s → take (4 * n) (drop at s) ≡ rows_of end es
  pub rest : drop end s ≡ bodies_of es
  pub may : listable ks low es ≡ true

module _ (ks : List TagKind) (s : List ℕ) (es : List Entry) (n at low end : ℕ) (h : at + 4 * suc n ≤ length s) (r : RowRight ks s at low end) (in-sheet : end + length_at s at ≤ length s) where
  abbrev l : ℕ
  l = length_at s at

  abbrev x : Entry
  x = record { tag = tag_at s at; body = between s (offset_at s at) (offset_at s at + l) }

  body_is : x.body ≡ take l (drop end s)
  body_is = let z : end + l - end ≡ l = omega arith in rw (r.starts, z)

  size_is : length x.body ≡ l
  size_is = ap length body_is ∙ length-take-le l (drop end s) (omega (arith, length-drop end s))

  first-row : Bytes s → take (4 * n) (drop (at + 4) s) ≡ rows_of (end + l) es → take (4 * suc n) (drop at s) ≡ rows_of end (x ∷ es)
  first-row bytes R =
      let lo : get_or s (at + 2) 0 ≡ end % 256 = omega (arith, r.starts, byte_at s bytes (at + 2)) in
      let hi : get_or s (at + 3) 0 ≡ end / 256 = omega (arith, r.starts, byte_at s bytes (at + 2)) in
      let q : rows_of end (x ∷ es) ≡ tag_at s at ∷ l ∷ end % 256 ∷ end / 256 ∷ rows_of (end + l) es = ap (λ (i : ℕ). tag_at s at ∷ i ∷ end % 256 ∷ end / 256 ∷ rows_of (end + i) es) size_is in
      let m : tag_at s at ∷ l ∷ get_or s (at + 2) 0 ∷ get_or s (at + 3) 0 ∷ take (4 * n) (drop (at + 4) s) ≡ tag_at s at ∷ l ∷ end % 256 ∷ end / 256 ∷ rows_of (end + l) es = rw (lo, hi, R) in
      four_more s at n (omega arith) ∙ m ∙ sym q

  one-row : Read ks s es n (at + 4) (tag_at s at + 1) (end + l) → Read ks s (x ∷ es) (suc n) at low end
  one-row R =
      let b : drop end s ≡ x.body ++ bodies_of es =
      sym (take-append-drop l (drop end s)) ∙ ap (λ (w : List ℕ). take l (drop end s) ++ w) (drop-drop l end s ∙ R.rest) ∙ ap (λ (w : List ℕ). w ++ bodies_of es) (sym body_is) in
      record {
        rows = λ bytes. first-row bytes (R.rows bytes);
        rest = b;
        may = cons ks low x es (record { least = r.least; allowed = rw size_is r.allowed; rest = R.may });
      }

read : (ks : List TagKind) (s : List ℕ) (n at low end : ℕ) → at + 4 * n ≤ length s → rows_ok ks n s at low end ≡ true → Read ks s (entries_from n s at) n at low end
unfolding rows_ok entries_from listable
read ks s zero at low end h e =
    let past_end : length s ≤ end = omega (arith, eqb-true end (length s) e) in
    record { rows = λ bytes. refl; rest = drop_of_length-le s past_end; may = refl }
read ks s (suc n) at low end h e =
    let f = first_right ks n s at low end e in
    let in-sheet : end + length_at s at ≤ length s = reach ks n s (at + 4) (tag_at s at + 1) (end + length_at s at) f.1 in
    one-row ks s (entries_from n s (at + 4)) n at low end h f.0 in-sheet (read ks s n (at + 4) (tag_at s at + 1) (end + length_at s at) (omega arith) f.1)

module _ (f : Form) (s : List ℕ) (e : is_sheet_of f s ≡ true) where
  reads : Read f.kinds s (entries_in s) (rows_listed s) 1 0 (1 + 4 * rows_listed s)
  reads = let c = contents f s e in read f.kinds s (rows_listed s) 1 0 (1 + 4 * rows_listed s) c.fits c.rows

  sheet_is : Bytes s → s ≡ sheet_of f (entries_in s)
  unfolding sheet_of
  sheet_is bytes =
      let n : ℕ = rows_listed s in
      let es : List Entry = entries_in s in
      let c = contents f s e in
      let k : length es ≡ n = entries_count n s 1 in
      let q : s ≡ (f.mark + n) ∷ drop 1 s = drop-cons s 0 0 c.some ∙ ap (λ (i : ℕ). i ∷ drop 1 s) c.marked in
      let t : drop 1 s ≡ rows_of (1 + 4 * n) es ++ bodies_of es =
      sym (take-append-drop (4 * n) (drop 1 s)) ∙ ap (λ (w : List ℕ). w ++ drop (4 * n) (drop 1 s)) (reads.rows bytes) ∙ ap (λ (w : List ℕ). rows_of (1 + 4 * n) es ++ w) (drop-drop (4 * n) 1 s ∙ reads.rest) in
      q ∙ rw (k, t)

-- ---- the theorems

pub exactly : (f : Form) → Proper f → SheetExactly f
exactly f P s bytes =
    (λ e. record { entries = entries_in s; may = (reads f s e).may; is = sheet_is f s e bytes }, λ w. ap (is_sheet_of f) w.is ∙ is-sheet f P w.entries w.may)

pub one_choice : (f : Form) → Proper f → SheetOneChoice f
one_choice f P es ds g h e = sym (read_back f P es g) ∙ ap entries_in e ∙ read_back f P ds h

pub listed_allowed : (f : Form) → SheetAllowed f
listed_allowed f s tag body e h = among_allowed f.kinds 0 tag body (entries_in s) (reads f s e).may h
