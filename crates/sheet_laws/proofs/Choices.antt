-- What the writer gives: the entries of a choice are those that the form of document 01 may list, and read back. Assumes nothing.
use mathlib.Core.Path.{◌≡◌, refl, sym, ap, ◌∙◌}
use mathlib.Core.Bool.{Bool, true, false, cond, ◌&&◌, and-eq-true_iff}
use mathlib.Core.List.{List, [], ◌∷◌, ◌++◌, append-nil}
use mathlib.Core.Option.{Option, none, some}
use Prim.Native.Nat.{ℕ, ◌+◌, ◌≤◌}
use native.Mathlib.Omega.{arith}
use lib.Dec.{eqb, leb}
use lib.ListN.{length}
use borrow.Author.Tests.{le-leb, leb-true, eqb-true, eqb-false}
use Rattle.sheet.specs.Sheet.{Entry, old, sheet_of, allows, is_sheet, among}
use Rattle.sheet.proofs.Tags.{allows-is, allowed-short}
use Rattle.sheet_writer.specs.Writing.{entry_if, choice, short}
use Rattle.sheet_writer.proofs.Laid.{choice-few}
use Rattle.sheet_forms.specs.Forms.{listable, SheetOfSome}
use Rattle.sheet_laws.specs.Written.{Written}
use Rattle.sheet_laws.specs.Laws.{SheetWritten, SheetBodyBack}
use Rattle.sheet_forms.proofs.Entries.{first, cons, lower, read_back}
use Rattle.sheet_forms.proofs.Forms.{old_proper, is-sheet, exactly}

allowed_tag : (t l : ℕ) → allows old.kinds t l ≡ true → (0x20 ≤ t) × (t ≤ 0x23)
allowed_tag t l e =
    let a = (and-eq-true_iff (leb 0x20 t) (leb t 0x23)).0 ((and-eq-true_iff (leb 0x20 t && leb t 0x23) (leb l 32)).0 (sym (allows-is t l) ∙ e)).0 in
    (leb-true 0x20 t a.0, leb-true t 0x23 a.1)

-- ---- a choice of short bodies may be listed

with_one : (t : ℕ) (b : Option (List ℕ)) (es : List Entry) (low : ℕ) → low ≤ t → 0x20 ≤ t → t ≤ 0x23 → short (entry_if t b ++ es) ≡ true
    → (short es ≡ true → listable old.kinds (t + 1) es ≡ true) → listable old.kinds low (entry_if t b ++ es) ≡ true
with_one t (some body) es low h least most s next =
    let p = (and-eq-true_iff (leb (length body) 32) (short es)).0 s in
    cons old.kinds low (record { tag = t; body = body }) es (record { least = h; allowed = allows-is t (length body) ∙ rw (le-leb _ _ least, le-leb _ _ most) p.0; rest = next p.1 })
with_one t none es low h least most s next = lower old.kinds low (t + 1) es (omega arith) (next s)

module _ (b c d e : Option (List ℕ)) where
  choice-may : short (choice b c d e) ≡ true → listable old.kinds 0 (choice b c d e) ≡ true
  unfolding listable
  choice-may =
      rw (← append-nil (entry_if 0x23 e))
      (λ s. with_one 0x20 b (entry_if 0x21 c ++ (entry_if 0x22 d ++ (entry_if 0x23 e ++ []))) 0 (omega arith) (omega arith) (omega arith) s
      (λ s. with_one 0x21 c (entry_if 0x22 d ++ (entry_if 0x23 e ++ [])) 0x21 (omega arith) (omega arith) (omega arith) s
      (λ s. with_one 0x22 d (entry_if 0x23 e ++ []) 0x22 (omega arith) (omega arith) (omega arith) s
      (λ s. with_one 0x23 e [] 0x23 (omega arith) (omega arith) (omega arith) s (λ _. refl)))))

-- ---- entries that may be listed are a choice of short bodies

may_short : (low : ℕ) (es : List Entry) → listable old.kinds low es ≡ true → short es ≡ true
may_short low [] g = refl
may_short low (e ∷ es) g =
    let f = first old.kinds low e es g in
    rw (le-leb _ _ (allowed-short e.tag (length e.body) f.allowed)) (may_short (e.tag + 1) es f.rest)

-- what there is under the lowest tag, and the rest
record Split (t : ℕ) (es : List Entry) : Type 0 where
  pub body : Option (List ℕ)
  pub rest : List Entry
  pub is : es ≡ entry_if t body ++ rest
  pub may : listable old.kinds (t + 1) rest ≡ true

split : (t : ℕ) (es : List Entry) → listable old.kinds t es ≡ true → Split t es
unfolding listable
split t [] g = record { body = none; rest = []; is = refl; may = refl }
split t (e ∷ es) g = by-tag (eqb e.tag t) refl
  where
    by-tag : (x : Bool) → eqb e.tag t ≡ x → Split t (e ∷ es)
    by-tag true q =
        let is : e.tag ≡ t = eqb-true e.tag t q in
        record { body = some e.body; rest = es; is = ap (λ (n : ℕ). record { tag = n; body = e.body } ∷ es) is; may = rw is at (first old.kinds t e es g).rest }
    by-tag false q =
        let f = first old.kinds t e es g in
        record { body = none; rest = e ∷ es; is = refl; may = cons old.kinds (t + 1) e es (record { least = omega (arith, f.least, eqb-false e.tag t q); allowed = f.allowed; rest = f.rest }) }

-- no tag is below 20
from_20 : (es : List Entry) → listable old.kinds 0 es ≡ true → listable old.kinds 0x20 es ≡ true
unfolding listable
from_20 [] g = refl
from_20 (e ∷ es) g =
    let f = first old.kinds 0 e es g in
    cons old.kinds 0x20 e es (record { least = (allowed_tag e.tag (length e.body) f.allowed).0; allowed = f.allowed; rest = f.rest })

-- none is above 23
none_left : (es : List Entry) → listable old.kinds 0x24 es ≡ true → es ≡ []
none_left [] g = refl
none_left (e ∷ es) g =
    let f = first old.kinds 0x24 e es g in
    absurd (omega (arith, f.least, (allowed_tag e.tag (length e.body) f.allowed).1))

pub chosen : (s : List ℕ) → SheetOfSome old s → Written s
chosen s w =
    let p = split 0x20 w.entries (from_20 w.entries w.may) in
    let q = split 0x21 p.rest p.may in
    let r = split 0x22 q.rest q.may in
    let u = split 0x23 r.rest r.may in
    let last : r.rest ≡ entry_if 0x23 u.body = u.is ∙ rw (none_left u.rest u.may) (append-nil (entry_if 0x23 u.body)) in
    let is : w.entries ≡ choice p.body q.body r.body u.body =
    p.is ∙ ap (λ (es : List Entry). entry_if 0x20 p.body ++ es) (q.is ∙ ap (λ (es : List Entry). entry_if 0x21 q.body ++ es) (r.is ∙ ap (λ (es : List Entry). entry_if 0x22 r.body ++ es) last)) in
    record {
      body20 = p.body;
      body21 = q.body;
      body22 = r.body;
      body23 = u.body;
      small = rw is at (may_short 0 w.entries w.may);
      is = w.is ∙ ap (λ (es : List Entry). sheet_of old es) is;
    }

-- ---- the theorems

pub exactly_written : SheetWritten
exactly_written s bytes = (
  λ e. chosen s ((exactly old old_proper s bytes).0 e),
  λ w.
      ap (λ (x : List ℕ). is_sheet x) w.is
      ∙ is-sheet old old_proper (choice w.body20 w.body21 w.body22 w.body23) (choice-may w.body20 w.body21 w.body22 w.body23 w.small),
)

-- what there is under a tag that none of the other entries has
among_one : (tag t : ℕ) (b : Option (List ℕ)) (es : List Entry) → among t es ≡ none → among tag (entry_if t b ++ es) ≡ cond (eqb t tag) b (among tag es)
unfolding among
among_one tag t (some body) es others = refl
among_one tag t none es others = by-tag (eqb t tag) refl
  where
    by-tag : (x : Bool) → eqb t tag ≡ x → among tag es ≡ cond x none (among tag es)
    by-tag true q = rw (← eqb-true t tag q) others
    by-tag false q = refl

among_other : (tag t : ℕ) (b : Option (List ℕ)) (es : List Entry) → eqb t tag ≡ false → among tag es ≡ none → among tag (entry_if t b ++ es) ≡ none
unfolding among
among_other tag t (some body) es apart others = rw apart others
among_other tag t none es apart others = others

pub body_back : SheetBodyBack
unfolding among
body_back tag b c d e =
    let from23 : List Entry = entry_if 0x23 e ++ [] in
    let from22 : List Entry = entry_if 0x22 d ++ from23 in
    let from21 : List Entry = entry_if 0x21 c ++ from22 in
    let no22 : among 0x22 from23 ≡ none = among_other 0x22 0x23 e [] refl refl in
    let no21 : among 0x21 from22 ≡ none = among_other 0x21 0x22 d from23 refl (among_other 0x21 0x23 e [] refl refl) in
    let no20 : among 0x20 from21 ≡ none = among_other 0x20 0x21 c from22 refl (among_other 0x20 0x22 d from23 refl (among_other 0x20 0x23 e [] refl refl)) in
    ap (λ (es : List Entry). among tag es) (read_back old old_proper (choice b c d e) (omega (arith, choice-few b c d e)))
    ∙ rw (← append-nil (entry_if 0x23 e), among_one tag 0x20 b from21 no20, among_one tag 0x21 c from22 no21, among_one tag 0x22 d from23 no22, among_one tag 0x23 e [] refl)
