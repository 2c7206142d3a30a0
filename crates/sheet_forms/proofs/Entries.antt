-- Entries that a form may list: how many there are, and that the rows of their sheet list them. Assumes nothing.
use mathlib.Core.Path.{◌≡◌, refl, sym, ap, ◌∙◌}
use mathlib.Core.Bool.{Bool, true, false, ◌&&◌, and-eq-true_iff}
use mathlib.Core.List.{List, [], ◌∷◌, ◌++◌, append_assoc}
use mathlib.Core.Option.{some}
use Prim.Native.Nat.{ℕ, ◌+◌, ◌*◌, ◌-◌, ◌/◌, ◌%◌, ◌≤◌}
use native.Mathlib.Omega.{arith}
use lib.Dec.{eqb, leb}
use lib.ListN.{length, take, drop, length-append}
use lib.Seq.{get_or-append_seam, get_or-append-add, drop-append_seam, take-append_seam, drop-drop, drop_at}
use borrow.Author.Tests.{le-leb, leb-true, eqb-true}
use Rattle.sheet.specs.Sheet.{Entry, rows_of, bodies_of, contents_of, TagKind, Form, sheet_of, allows, tag_at, length_at, offset_at, rows_listed, entries_from, among}
use Rattle.sheet.proofs.Tags.{over, over_one, over_all}
use Rattle.sheet.proofs.Lengths.{rows_length}
use Rattle.sheet_forms.specs.Forms.{Proper, listable}
use Rattle.sheet_forms.specs.Laws.{SheetReadBack}

-- ---- taken apart and put together

pub record First (ks : List TagKind) (low : ℕ) (e : Entry) (es : List Entry) : Type 0 where
  pub least : low ≤ e.tag
  pub allowed : allows ks e.tag (length e.body) ≡ true
  pub rest : listable ks (e.tag + 1) es ≡ true

pub first : (ks : List TagKind) (low : ℕ) (e : Entry) (es : List Entry) → listable ks low (e ∷ es) ≡ true → First ks low e es
unfolding listable
first ks low e es h =
    let b = (and-eq-true_iff (leb low e.tag && allows ks e.tag (length e.body)) (listable ks (e.tag + 1) es)).0 h in
    let a = (and-eq-true_iff (leb low e.tag) (allows ks e.tag (length e.body))).0 b.0 in
    record { least = leb-true _ _ a.0; allowed = a.1; rest = b.1 }

pub cons : (ks : List TagKind) (low : ℕ) (e : Entry) (es : List Entry) → First ks low e es → listable ks low (e ∷ es) ≡ true
unfolding listable
cons ks low e es f = rw (le-leb _ _ f.least, f.allowed) f.rest

-- from a higher tag on, so from a lower one
pub lower : (ks : List TagKind) (low high : ℕ) (es : List Entry) → low ≤ high → listable ks high es ≡ true → listable ks low es ≡ true
unfolding listable
lower ks low high [] h g = refl
lower ks low high (e ∷ es) h g = let f = first ks high e es g in cons ks low e es (record { least = omega (arith, f.least); allowed = f.allowed; rest = f.rest })

-- ---- what there is under a tag is allowed

pub among_allowed : (ks : List TagKind) (low tag : ℕ) (body : List ℕ) (es : List Entry) → listable ks low es ≡ true → among tag es ≡ some body → allows ks tag (length body) ≡ true
unfolding among
among_allowed ks low tag body [] g h = let z : ◌≡◌ {A = ℕ} 0 1 = cc in absurd (omega arith)
among_allowed ks low tag body (e ∷ es) g h =
    let f = first ks low e es g in
    by-tag (eqb e.tag tag) refl f (λ n. among_allowed ks (e.tag + 1) tag body es f.rest n)
  where
    by-tag : (b : Bool) → eqb e.tag tag ≡ b → First ks low e es → (among tag es ≡ some body → allows ks tag (length body) ≡ true) → allows ks tag (length body) ≡ true
    by-tag true q f next =
        let h' : some e.body ≡ some body = rw q at h in
        let is : e.body ≡ body = cc in
        rw (← is, ← eqb-true e.tag tag q) f.allowed
    by-tag false q f next = next (rw q at h)

-- ---- there are as few as the form has tags

abbrev one : TagKind → ℕ
one k = 1

few_from : (ks : List TagKind) (low : ℕ) (es : List Entry) → listable ks low es ≡ true → length es ≤ over one low ks
few_from ks low [] g = omega arith
few_from ks low (e ∷ es) g =
    let f = first ks low e es g in
    omega (arith, few_from ks (e.tag + 1) es f.rest, over_one one 1 low e.tag (length e.body) ks (λ k h. omega arith) f.least f.allowed)

all_kinds : (ks : List TagKind) → over one 0 ks ≡ length ks
unfolding over
all_kinds [] = refl
all_kinds (k ∷ ks) = omega (arith, over_all one k ks, all_kinds ks)

pub few_entries : (ks : List TagKind) (es : List Entry) → listable ks 0 es ≡ true → length es ≤ length ks
few_entries ks es g = omega (arith, few_from ks 0 es g, all_kinds ks)

-- ---- a sheet's rows list its entries

-- the row of an entry, after the bytes p: what it says, and where the next one starts
pub record RowRead (s p : List ℕ) (end : ℕ) (e : Entry) (after : List ℕ) : Type 0 where
  pub tag : tag_at s (length p) ≡ e.tag
  pub size : length_at s (length p) ≡ length e.body
  pub starts : offset_at s (length p) ≡ end
  pub before : List ℕ
  pub next : length before ≡ length p + 4
  pub is : s ≡ before ++ after

pub row : (s p r : List ℕ) (end : ℕ) (e : Entry) (es : List Entry) → s ≡ p ++ (rows_of end (e ∷ es) ++ r) → RowRead s p end e (rows_of (end + length e.body) es ++ r)
row s p r end e es w =
    let after : List ℕ = rows_of (end + length e.body) es ++ r in
    let four : List ℕ = e.tag ∷ length e.body ∷ end % 256 ∷ end / 256 ∷ [] in
    let z : end % 256 + 256 * (end / 256) ≡ end = omega arith in
    record {
      tag = rw w (get_or-append_seam p e.tag (drop 1 four ++ after) 0);
      size = rw w (get_or-append-add p (four ++ after) 1 0);
      starts = rw w (rw (get_or-append-add p (four ++ after) 2 0, get_or-append-add p (four ++ after) 3 0) z);
      before = p ++ four;
      next = length-append p four;
      is = w ∙ sym (append_assoc p four after);
    }

rows_list : (end : ℕ) (es : List Entry) (p r s : List ℕ) → s ≡ p ++ (rows_of end es ++ r) → drop end s ≡ bodies_of es → entries_from (length es) s (length p) ≡ es
unfolding entries_from
rows_list end [] p r s w d = refl
rows_list end (e ∷ es) p r s w d =
    let l : ℕ = length e.body in
    let R = row s p r end e es w in
    let d' : drop (end + l) s ≡ bodies_of es = sym (drop-drop l end s) ∙ ap (λ (x : List ℕ). drop l x) d ∙ drop-append_seam e.body (bodies_of es) in
    let ih : entries_from (length es) s (length p + 4) ≡ es = ap (λ (k : ℕ). entries_from (length es) s k) (sym R.next) ∙ rows_list (end + l) es R.before r s R.is d' in
    let n : end + l - end ≡ l = omega arith in
    let b : take l (bodies_of (e ∷ es)) ≡ e.body = take-append_seam e.body (bodies_of es) in
    rw (ih, R.tag, R.starts, R.size, n, d, b)

-- reading a sheet gives back the very entries
pub read_back : (f : Form) → Proper f → SheetReadBack f
unfolding sheet_of
read_back f P es few =
    let n : ℕ = length es in
    let s : List ℕ = sheet_of f es in
    let d : drop (1 + 4 * n) s ≡ bodies_of es = drop_at (contents_of f es) (bodies_of es) (1 + 4 * n) (omega (arith, rows_length es (1 + 4 * n))) in
    let c : rows_listed s ≡ n = omega (arith, P.marks) in
    ap (λ (k : ℕ). entries_from k s 1) c ∙ rows_list (1 + 4 * n) es ((f.mark + n) ∷ []) (bodies_of es) s refl d
