-- Entries after an edit, in any form: each tag has what it should, and entries are all that they have. Assumes nothing.
use mathlib.Core.Path.{◌≡◌, refl, sym, ap, ◌∙◌}
use mathlib.Core.Bool.{Bool, true, false, cond}
use mathlib.Core.List.{List, [], ◌∷◌, ◌++◌}
use mathlib.Core.Option.{Option, none, some}
use Prim.Native.Nat.{ℕ, ◌+◌, ◌<◌}
use native.Mathlib.Omega.{arith}
use lib.Dec.{eqb}
use borrow.Author.Tests.{eq-eqb, ne_eqb, eqb-true, eqb-false}
use Rattle.sheet.specs.Sheet.{Entry, TagKind, among}
use Rattle.sheet_forms.specs.Forms.{listable}
use Rattle.sheet_forms.proofs.Entries.{First, first}
use Rattle.sheet_edit.specs.Edit.{entry_for, edited}
use Rattle.sheet_edit.proofs.Entries.{Order, is-less, is_same, is-more, order}
use Rattle.sheet_edit.proofs.After.{edited-none, edited-less, edited-same, edited-more, from_first}

-- ---- each tag has what it should

-- entries that rise from above a tag on have nothing under it
among_high : (ks : List TagKind) (low t : ℕ) (es : List Entry) → listable ks low es ≡ true → t < low → among t es ≡ none
unfolding among
among_high ks low t [] g h = refl
among_high ks low t (e ∷ es) g h =
    let f = first ks low e es g in
    rw (ne_eqb e.tag t (λ q. omega (arith, f.least))) (among_high ks (e.tag + 1) t es f.rest (omega (arith, f.least)))

among_entry : (ks : List TagKind) (t tag : ℕ) (to : Option (List ℕ)) (es : List Entry) → listable ks (tag + 1) es ≡ true → among t (entry_for tag to ++ es) ≡ cond (eqb tag t) to (among t es)
unfolding among
among_entry ks t tag (some body) es g = refl
among_entry ks t tag none es g = by-tag (eqb tag t) refl
  where
    by-tag : (b : Bool) → eqb tag t ≡ b → among t es ≡ cond b none (among t es)
    by-tag true q = among_high ks (tag + 1) t es g (omega (arith, eqb-true tag t q))
    by-tag false q = refl

-- of two tests of which not both hold, either may come first
pub either : {A : Type 0} (x y : Bool) (a b c : A) → (x ≡ true → y ≡ true → ⊥) → cond x a (cond y b c) ≡ cond y b (cond x a c)
either true true a b c never = absurd (never refl refl)
either true false a b c never = refl
either false true a b c never = refl
either false false a b c never = refl

-- the same test twice
twice : {A : Type 0} (x : Bool) (a b c : A) → cond x a c ≡ cond x a (cond x b c)
twice true a b c = refl
twice false a b c = refl

pub among_edited : (ks : List TagKind) (low t tag : ℕ) (to : Option (List ℕ)) (es : List Entry) → listable ks low es ≡ true → among t (edited tag to es) ≡ cond (eqb tag t) to (among t es)
unfolding listable among
among_edited ks low t tag to [] g = ap (λ (x : List Entry). among t x) (edited-none ks tag to) ∙ among_entry ks t tag to [] refl
among_edited ks low t tag to (e ∷ es) g =
    let f = first ks low e es g in
    by_order f (among_edited ks (e.tag + 1) t tag to es f.rest) (order e.tag tag)
  where
    by_order : First ks low e es → among t (edited tag to es) ≡ cond (eqb tag t) to (among t es) → Order e.tag tag → among t (edited tag to (e ∷ es)) ≡ cond (eqb tag t) to (among t (e ∷ es))
    by_order f next (is-less k) =
        ap (λ (x : List Entry). among t x) (edited-less ks tag to e es k)
        ∙ ap (λ (o : Option (List ℕ)). cond (eqb e.tag t) (some e.body) o) next
        ∙ either (eqb e.tag t) (eqb tag t) (some e.body) to (among t es) (λ x y. omega (arith, eqb-true e.tag t x, eqb-true tag t y))
    by_order f next (is_same k) =
        ap (λ (x : List Entry). among t x) (edited-same ks tag to e es f.rest k)
        ∙ among_entry ks t tag to es (rw k at f.rest)
        ∙ rw k (twice (eqb tag t) to (some e.body) (among t es))
    by_order f next (is-more k) =
        ap (λ (x : List Entry). among t x) (edited-more ks tag to e es f.rest k) ∙ among_entry ks t tag to (e ∷ es) (from_first ks low tag e es g k)

-- ---- entries that have the same under every tag are the same

nothing_some : {b : List ℕ} {X : Type 0} → none ≡ some b → X
nothing_some h = let z : ◌≡◌ {A = ℕ} 0 1 = cc in absurd (omega arith)

own : (e : Entry) (es : List Entry) → among e.tag (e ∷ es) ≡ some e.body
unfolding among
own e es = rw (eq-eqb e.tag e.tag refl)

other : (t : ℕ) (e : Entry) (es : List Entry) → (e.tag ≡ t → ⊥) → among t (e ∷ es) ≡ among t es
unfolding among
other t e es never = rw (ne_eqb e.tag t never)

pub same_entries : (ks : List TagKind) (low : ℕ) (es ds : List Entry) → listable ks low es ≡ true → listable ks low ds ≡ true → ((t : ℕ) → among t es ≡ among t ds) → es ≡ ds
unfolding among
same_entries ks low [] [] g k h = refl
same_entries ks low [] (d ∷ ds) g k h = nothing_some (h d.tag ∙ own d ds)
same_entries ks low (e ∷ es) [] g k h = nothing_some (sym (h e.tag) ∙ own e es)
same_entries ks low (e ∷ es) (d ∷ ds) g k h =
    let f = first ks low e es g in
    let f' = first ks low d ds k in
    by_order f f' (λ q. same_entries ks (e.tag + 1) es ds f.rest (rw (← q) at f'.rest)) (order e.tag d.tag)
  where
    rest : First ks low e es → First ks low d ds → e.tag ≡ d.tag → (t : ℕ) → among t es ≡ among t ds
    rest f f' q t = by-test (eqb e.tag t) refl
      where
        by-test : (b : Bool) → eqb e.tag t ≡ b → among t es ≡ among t ds
        by-test true x =
            among_high ks (e.tag + 1) t es f.rest (omega (arith, eqb-true e.tag t x)) ∙ sym (among_high ks (d.tag + 1) t ds f'.rest (omega (arith, eqb-true e.tag t x)))
        by-test false x = sym (other t e es (eqb-false e.tag t x)) ∙ h t ∙ other t d ds (λ y. eqb-false e.tag t x (q ∙ y))

    by_order : First ks low e es → First ks low d ds → (e.tag ≡ d.tag → ((t : ℕ) → among t es ≡ among t ds) → es ≡ ds) → Order e.tag d.tag → e ∷ es ≡ d ∷ ds
    by_order f f' next (is-less q) = nothing_some (sym (among_high ks (e.tag + 1) e.tag (d ∷ ds) (from_first ks low e.tag d ds k q) (omega arith)) ∙ sym (h e.tag) ∙ own e es)
    by_order f f' next (is-more q) = nothing_some (sym (among_high ks (d.tag + 1) d.tag (e ∷ es) (from_first ks low d.tag e es g q) (omega arith)) ∙ h d.tag ∙ own d ds)
    by_order f f' next (is_same q) =
        let b : some e.body ≡ some d.body = sym (own e es) ∙ h e.tag ∙ ap (λ (t : ℕ). among t (d ∷ ds)) q ∙ own d ds in
        let body_is : e.body ≡ d.body = cc in
        let rest-is : es ≡ ds = next q (rest f f' q) in
        rw (rest-is) (one_entry q body_is)
      where
        one_entry : e.tag ≡ d.tag → e.body ≡ d.body → e ∷ ds ≡ d ∷ ds
        one_entry q b = ap (λ (t : ℕ). record { tag = t; body = e.body } ∷ ds) q ∙ ap (λ (x : List ℕ). record { tag = d.tag; body = x } ∷ ds) b
